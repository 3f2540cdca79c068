-- Lists of points that a cube counts: in any order, and of few points.
use Rattle.std.proofs.Common.{◌≡◌, ℕ, suc, ◌+◌, ◌*◌, ◌<◌, ◌≤◌, ◌^◌, cond, ◌&&◌, eqb, IsTrue, All, List, [], ◌∷◌, ◌++◌, length, Contains, sym, ap, ◌∙◌, subst, arith, ◌⊎◌, inl, inr}
use Rattle.std.proofs.Math.Logic.{∥∥₁_elim, ∥∥₁_map}
use Rattle.std.proofs.Math.Nat.{ℕ_set}
use Rattle.std.proofs.lemmas.List.{map-append, length_push}
use Rattle.std.proofs.lemmas.List.Elements.{Contains-append_left, Contains-push, Contains-push_cases, All-push}
use Rattle.std.proofs.lemmas.List.Sums.{sum_by-cons, sum_by_push}
use Rattle.cube_view.specs.Bag.{most_points}
use Rattle.cube_view.specs.Places.{time_dim}
use Rattle.cube_view.specs.Points.{Point, spot_of, heaviest}
use Rattle.cube_view.specs.Validity.{sound}
use Rattle.cube_view.specs.Walks.{Walk, SpotPath, under}
use Rattle.cube_view.specs.declared.schema.Schema.{Schema}
use Rattle.cube_view.proofs.FinerWalks.{Contains-cases, Contains-cons, Contains-head}
use Rattle.cube_view.proofs.PointWeights.{sound-light}
use Rattle.node_arena.specs.Amounts.{Weighted, spots_in, amount_under}
use Rattle.node_arena.specs.Shape.{home_of, HasShape}
use Rattle.node_arena.specs.Slots.{Slot}
use Rattle.proper_path.specs.Making.{AllOfShape}
use Rattle.proper_path.specs.Order.{shape_of}
use Rattle.proper_path.specs.Paths.{point_path, paths_of}
use Rattle.proper_path.proofs.Labels.{spot_of_schema, shape-point_path}
use Rattle.point_insert.specs.Known.{total_weight}
use Rattle.cube_store.specs.Counted.{CountsPoints, HasPoints}
use Rattle.group_insert.specs.InsertingAll.{HasInserted}
use Rattle.cube_store.specs.Inserting.{IsInsertable, CanInsert, Inserts}

-- a shape over a list is one over each list of the same points
pub shape_same : (dims : ℕ) (slots : List Slot) (homes : List Walk) (h k : List Weighted) → ((q : SpotPath) → Contains (spots_in h) q → Contains (spots_in k) q) → ((q : SpotPath) → Contains (spots_in k) q → Contains (spots_in h) q) → ((a : Walk) (bin : ℕ) → amount_under h a bin ≡ amount_under k a bin) → HasShape dims slots homes h → HasShape dims slots homes k
shape_same dims slots homes h k to back amounts S = record {
  shaped = record {
    has_homes = S.has_homes;
    has_tables = S.has_tables;
    holds = record {
      needed = λ i e l w. S.holds.needed i e l (record { spot = w.spot; is_in = back w.spot w.is_in; lies = w.lies });
      wanted = λ i e l is. let w = S.holds.wanted i e l is in record { spot = w.spot; is_in = to w.spot w.is_in; lies = w.lies };
      agrees = λ i e l is q c u. S.holds.agrees i e l is q (back q c) u;
    };
    counted = record { counts = λ i bin l t. S.counted.counts i bin l t ∙ amounts (home_of homes i) bin };
  };
  shares = S.shares;
  alike = record { lengths = S.alike.lengths; all = S.alike.all; same = λ q c. S.alike.same q (back q c) };
}

-- what one adds under an address in a bin
abbrev pub adds_under : Walk → ℕ → Weighted → ℕ
adds_under a bin w = cond (under w.spot a && eqb w.spot.bin bin) w.amount 0

-- the new point may stand at the end
shape_moved : (dims : ℕ) (slots : List Slot) (homes : List Walk) (h : List Weighted) (p : Weighted) → HasShape dims slots homes (p ∷ h) → HasShape dims slots homes (h ++ p ∷ [])
shape_moved dims slots homes h p S = shape_same dims slots homes (p ∷ h) (h ++ p ∷ []) to back amounts S
  where
    spots : spots_in (h ++ p ∷ []) ≡ spots_in h ++ p.spot ∷ []
    spots = map-append (λ (w : Weighted). w.spot) h (p ∷ [])

    to : (q : SpotPath) → Contains (spots_in (p ∷ h)) q → Contains (spots_in (h ++ p ∷ [])) q
    to q c = subst (λ z. Contains z q) (sym spots) (go (Contains-cases (spots_in h) p.spot q c))
      where
        go : (p.spot ≡ q) ⊎ Contains (spots_in h) q → Contains (spots_in h ++ p.spot ∷ []) q
        go (inl e) = subst (λ z. Contains (spots_in h ++ p.spot ∷ []) z) e (Contains-push (spots_in h) p.spot)
        go (inr d) = Contains-append_left (spots_in h) (p.spot ∷ []) q d

    back : (q : SpotPath) → Contains (spots_in (h ++ p ∷ [])) q → Contains (spots_in (p ∷ h)) q
    back q c = go (Contains-push_cases (spots_in h) p.spot q (subst (λ z. Contains z q) spots c))
      where
        go : Contains (spots_in h) q ⊎ (p.spot ≡ q) → Contains (p.spot ∷ spots_in h) q
        go (inl d) = Contains-cons (spots_in h) p.spot q d
        go (inr e) = subst (λ z. Contains (p.spot ∷ spots_in h) z) e (Contains-head (spots_in h) p.spot)

    amounts : (a : Walk) (bin : ℕ) → amount_under (p ∷ h) a bin ≡ amount_under (h ++ p ∷ []) a bin
    amounts a bin = let x = sum_by-cons (adds_under a bin) p h in let y = sum_by_push (adds_under a bin) h p in omega (arith, x, y)

-- sound points weigh no more than so many of the heaviest
pub weight_within : (z : Schema) (h : List Point) → All (λ p. IsTrue (sound z p)) h → total_weight (paths_of z h) ≤ length h * heaviest
weight_within z [] all = omega arith
weight_within z (p ∷ h) all =
    let r = weight_within z h (λ i d lt. all (suc i) d (omega (arith, lt))) in
    let l = sound-light z p (all 0 p (omega arith)) in
    let c = sum_by-cons (λ (w : Weighted). w.amount) (point_path z p) (paths_of z h) in
    omega (arith, r, l, c)

pub paths_alike : (z : Schema) (p : Point) (h : List Point) → AllOfShape (spots_in (paths_of z h)) (point_path z p).spot
paths_alike z p [] q c = absurd (let l = c.1 in omega (arith, l))
paths_alike z p (x ∷ h) q c = go (Contains-cases (spots_in (paths_of z h)) (point_path z x).spot q c) (λ d. paths_alike z p h q d)
  where
    go : ((point_path z x).spot ≡ q) ⊎ Contains (spots_in (paths_of z h)) q → (Contains (spots_in (paths_of z h)) q → shape_of q ≡ shape_of (point_path z p).spot) → shape_of q ≡ shape_of (point_path z p).spot
    go (inl e) f = ap shape_of (sym e) ∙ shape-point_path z x p
    go (inr d) f = f d

-- a sound point may join the points that are counted
insertable : (z : Schema) (p : Point) (slots : List Slot) (root size : ℕ) (h : List Point) → IsTrue (sound z p) → size < most_points → (C : CountsPoints z slots root size h) → IsInsertable (time_dim z) (point_path z p) slots C.homes (paths_of z h)
insertable z p slots root size h is few C = record { shape = C.shape; alike = paths_alike z p h; spot = spot_of_schema z p; light = light }
  where
    light : total_weight (point_path z p ∷ paths_of z h) < 2 ^ 63
    light =
        let w = weight_within z h C.all_sound in
        let l = sound-light z p is in
        let c = sum_by-cons (λ (w : Weighted). w.amount) (point_path z p) (paths_of z h) in
        let n = C.number in
        omega (arith, w, l, c, n, few)

pub can_insert : (z : Schema) (p : Point) (slots : List Slot) (root size : ℕ) → IsTrue (sound z p) → size < most_points → HasPoints z slots root size → ∥ CanInsert (time_dim z) (point_path z p) slots ∥₁
can_insert z p slots root size is few R = ∥∥₁_map R (λ C. record { homes = C.1.homes; points = paths_of z C.0; known = insertable z p slots root size C.0 is few C.1 })

-- after an insertion the list with the point at its end is counted
pub counts_joined : (z : Schema) (p : Point) (old new : List Slot) (root size : ℕ) (h : List Point) → IsTrue (sound z p) → length (spot_of p).values ≡ 4 → size < most_points → Inserts (time_dim z) (point_path z p) old new → CountsPoints z old root size h → CountsPoints z new root (size + 1) (h ++ p ∷ [])
counts_joined z p old new root size h is four few I C = record {
  homes = r.homes;
  shape = subst (HasShape (time_dim z) new r.homes) (sym (map-append (λ (x : Point). point_path z x) h (p ∷ []))) (shape_moved (time_dim z) new r.homes (paths_of z h) (point_path z p) r.shape);
  at_top = C.at_top;
  all_sound = All-push (λ x. IsTrue (sound z x)) h p C.all_sound is;
  all_four = All-push (λ x. length (spot_of x).values ≡ 4) h p C.all_four four;
  number = let n = C.number in let m = length_push h p in omega (arith, n, m);
}
  where
    r : HasInserted (time_dim z) (point_path z p ∷ paths_of z h) new
    r = I C.homes (paths_of z h) (insertable z p old root size h is few C)

pub has_more : (z : Schema) (p : Point) (old new : List Slot) (root size : ℕ) → IsTrue (sound z p) → length (spot_of p).values ≡ 4 → size < most_points → Inserts (time_dim z) (point_path z p) old new → HasPoints z old root size → HasPoints z new root (size + 1)
has_more z p old new root size is four few I R = ∥∥₁_map R (λ C. (C.0 ++ p ∷ [], counts_joined z p old new root size C.0 is four few I C.1))

-- the root of a cube is its first slot
pub root_of_points : (z : Schema) (slots : List Slot) (root size : ℕ) → HasPoints z slots root size → root ≡ 0
root_of_points z slots root size has = ∥∥₁_elim has (ℕ_set _ _) (λ C. C.1.at_top)
