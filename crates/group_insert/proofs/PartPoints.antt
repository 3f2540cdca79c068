-- What the points of a part say of a visit.
use Rattle.std.proofs.Common.{◌≡◌, ℕ, ◌+◌, ◌<◌, ◌≤◌, ◌^◌, Bool, true, false, cond, eqb, ◌&&◌, ◌⊎◌, inl, inr, List, [], ◌∷◌, Some, None, All, Contains, length, drop, refl, sym, ap, ◌∙◌, subst, arith, eq-eqb, eqb-true, length-drop}
use Rattle.std.proofs.lemmas.List.Elements.{All-contains}
use Rattle.std.proofs.lemmas.List.Sums.{sum_by-cons, sum_by-append}
use Rattle.cube_view.specs.Paths.{spot_path, path_of}
use Rattle.cube_view.specs.Places.{time_dim, deepest}
use Rattle.cube_view.specs.Points.{Point, spot_of, weight_of_point}
use Rattle.cube_view.specs.Walks.{down, Walk, SpotPath, cursor, under, Under, HasSpot, dimension}
use Rattle.cube_view.specs.declared.schema.Schema.{Schema}
use Rattle.cube_view.proofs.FinerWalks.{under_before, under-some, begun, Contains-head}
use Rattle.node_arena.specs.Amounts.{Weighted, spots_in, amount_under}
use Rattle.node_arena.specs.Shape.{home_of, IsLinked}
use Rattle.node_arena.specs.Slots.{Slot, link_of, slot_of, is_table, count, counts_of}
use Rattle.node_arena.specs.declared.link.Link.{Link}
use Rattle.time_table.specs.Counts.{total_count}
use Rattle.point_insert.specs.Known.{total_weight}
use Rattle.point_insert.proofs.Light.{table_light}
use Rattle.proper_path.specs.Paths.{point_path, level_of, paths_of}
use Rattle.proper_path.proofs.Labels.{length-path_of}
use Rattle.proper_path.specs.Changes.{IsAdded}
use Rattle.group_insert.specs.Added.{amount_in, part_weight}
use Rattle.group_insert.specs.Labels.{label_at, HasLabel, IsLeastFrom, TellsOneLabel}
use Rattle.group_insert.specs.Parts.{part_of}
use Rattle.group_insert.specs.Later.{PutOff}
use Rattle.group_insert.specs.Visiting.{IsVisitableAt, VisitsAt}
use Rattle.group_insert.specs.declared.way.Way.{Way}
use Rattle.group_insert.specs.Visits.{HasTwoLabels, HasOneLabel}
use Rattle.group_insert.proofs.GroupTable.{table_visited}
use Rattle.group_insert.proofs.Earlier.{earlier-irreflexive}
use Rattle.proper_path.proofs.SpotRemainders.{left, under-down, went_down}
use Rattle.group_insert.proofs.GroupParts.{of_part, in_part, spot_is_of, spot_of_point}

-- a spot of the group that goes down a label is that of a point of the part with that label ..
pub record IsPointAt (z : Schema) (group : List Point) (a : Walk) (n : ℕ) (q : SpotPath) : Type 0 where
  pub point : Point
  pub is_in : Contains (part_of z group a) point
  pub label : label_at z (dimension a) (level_of a + 1) point ≡ n
  pub spot : spot_path z (spot_of point) ≡ q

pub point_at_label : (z : Schema) (group : List Point) (a : Walk) (n : ℕ) (q : SpotPath) → level_of a < deepest z (dimension a) → Contains (spots_in (paths_of z group)) q → Under q (down n ∷ a) → IsPointAt z group a n q
point_at_label z group a n q lt c u =
    let r = spot_is_of z group q c in
    let v : Under (spot_path z (spot_of r.0)) (down n ∷ a) = subst (λ y. Under y (down n ∷ a)) (sym r.2) u in
    let w = under_before (spot_path z (spot_of r.0)) (down n) a v in
    record {
      point = r.0;
      is_in = in_part z group a r.0 r.1 w;
      label = eqb-true (label_at z (dimension a) (level_of a + 1) r.0) n (sym (under-down z (spot_of r.0) a n w lt) ∙ v);
      spot = r.2;
    }

-- .. and such a point's spot goes down it
pub spot_at_label : (z : Schema) (group : List Point) (a : Walk) (n : ℕ) → level_of a < deepest z (dimension a) → HasLabel z (dimension a) (level_of a + 1) n (part_of z group a) → HasSpot (spots_in (paths_of z group)) (down n ∷ a)
spot_at_label z group a n lt L =
    let r = of_part z group a L.point L.is_in in
    record {
      spot = spot_path z (spot_of L.point);
      is_in = spot_of_point z group L.point r.0;
      lies = under-down z (spot_of L.point) a n r.1 lt ∙ eq-eqb (label_at z (dimension a) (level_of a + 1) L.point) n L.at;
    }

-- no label of a part is missed
pub none_from : (z : Schema) (group : List Point) (a : Walk) (from : ℕ) → level_of a < deepest z (dimension a) → All (λ p. label_at z (dimension a) (level_of a + 1) p < from) (part_of z group a) → (n : ℕ) (q : SpotPath) → from ≤ n → Contains (spots_in (paths_of z group)) q → Under q (down n ∷ a) → ⊥
none_from z group a from lt A n q le c u =
    let r = point_at_label z group a n q lt c u in
    let x = All-contains (λ p. label_at z (dimension a) (level_of a + 1) p < from) (part_of z group a) r.point A r.is_in in
    let l = r.label in
    absurd (omega (arith, x, l, le))

pub none_between : (z : Schema) (group : List Point) (a : Walk) (from m : ℕ) → level_of a < deepest z (dimension a) → IsLeastFrom z (dimension a) (level_of a + 1) from m (part_of z group a) → (n : ℕ) (q : SpotPath) → from ≤ n → n < m → Contains (spots_in (paths_of z group)) q → Under q (down n ∷ a) → ⊥
none_between z group a from m lt N n q le less c u = go (All-contains (λ p. (label_at z (dimension a) (level_of a + 1) p < from) ⊎ (m ≤ label_at z (dimension a) (level_of a + 1) p)) (part_of z group a) r.point N.least r.is_in)
  where
    r : IsPointAt z group a n q
    r = point_at_label z group a n q lt c u

    go : (label_at z (dimension a) (level_of a + 1) r.point < from) ⊎ (m ≤ label_at z (dimension a) (level_of a + 1) r.point) → ⊥
    go (inl x) = let l = r.label in omega (arith, x, l, le)
    go (inr x) = let l = r.label in omega (arith, x, l, less)

-- a spot of the group that goes down from an address has a level there
pub goes_deep : (z : Schema) (group : List Point) (q : SpotPath) (a : Walk) (n : ℕ) → Contains (spots_in (paths_of z group)) q → Under q (down n ∷ a) → level_of a < deepest z (dimension a)
goes_deep z group q a n c u =
    let r = spot_is_of z group q c in
    let s = spot_of r.0 in
    let k = under-some (spot_path z s) (down n ∷ a) (subst (λ y. Under y (down n ∷ a)) (sym r.2) u) in
    let b = begun (cursor (spot_path z s) a) (down n) k.0 k.1 in
    let L = left z s a b.0 b.1 in
    let w = went_down n b.0.rest b.0.later k.0 b.2 in
    let e : length (n ∷ k.0.rest) ≡ length (drop (level_of a) (path_of z s (dimension a))) = ap length (sym w.0 ∙ L.rest) in
    let d = length-drop (level_of a) (path_of z s (dimension a)) in
    let l = length-path_of z s (dimension a) in
    omega (arith, e, d, l)

-- at the deepest level nothing goes down
pub none_at_leaf : (z : Schema) (group : List Point) (a : Walk) → level_of a ≡ deepest z (dimension a) → (n : ℕ) (q : SpotPath) → Contains (spots_in (paths_of z group)) q → Under q (down n ∷ a) → ⊥
none_at_leaf z group a deep n q c u = let l = goes_deep z group q a n c u in omega (arith, l, deep)

-- whether a node has one label
pub two_in_part : (z : Schema) (group : List Point) (slots : List Slot) (homes : List Walk) (i : ℕ) → level_of (home_of homes i) < deepest z (dimension (home_of homes i)) → TellsOneLabel z (dimension (home_of homes i)) (level_of (home_of homes i) + 1) (part_of z group (home_of homes i)) None → HasTwoLabels slots homes (paths_of z group) i
two_in_part z group slots homes i lt (p, q, cp, cq, n) = record {
  one = label_at z (dimension (home_of homes i)) (level_of (home_of homes i) + 1) p;
  other = label_at z (dimension (home_of homes i)) (level_of (home_of homes i) + 1) q;
  differ = n;
  at_one = inr (spot_at_label z group (home_of homes i) (label_at z (dimension (home_of homes i)) (level_of (home_of homes i) + 1) p) lt (record { point = p; is_in = cp; at = refl }));
  at_other = inr (spot_at_label z group (home_of homes i) (label_at z (dimension (home_of homes i)) (level_of (home_of homes i) + 1) q) lt (record { point = q; is_in = cq; at = refl }));
}

first_in : {X : Type 0} (xs : List X) → 0 < length xs → (x : X) × Contains xs x
first_in [] l = absurd (omega (arith, l))
first_in (x ∷ xs) l = (x, Contains-head xs x)

pub one_and_other : (z : Schema) (group : List Point) (slots : List Slot) (homes : List Walk) (i l m : ℕ) → level_of (home_of homes i) < deepest z (dimension (home_of homes i)) → 0 < length (part_of z group (home_of homes i)) → TellsOneLabel z (dimension (home_of homes i)) (level_of (home_of homes i) + 1) (part_of z group (home_of homes i)) (Some l) → IsLinked slots i (down m) → (l ≡ m → ⊥) → HasTwoLabels slots homes (paths_of z group) i
one_and_other z group slots homes i l m lt some A k n =
    let f = first_in (part_of z group (home_of homes i)) some in
    record {
      one = l;
      other = m;
      differ = n;
      at_one = inr (spot_at_label z group (home_of homes i) l lt (record { point = f.0; is_in = f.1; at = All-contains (λ p. label_at z (dimension (home_of homes i)) (level_of (home_of homes i) + 1) p ≡ l) (part_of z group (home_of homes i)) f.0 A f.1 }));
      at_other = inl k;
    }

pub one_alone : (z : Schema) (group : List Point) (slots : List Slot) (homes : List Walk) (i l : ℕ) → level_of (home_of homes i) < deepest z (dimension (home_of homes i)) → TellsOneLabel z (dimension (home_of homes i)) (level_of (home_of homes i) + 1) (part_of z group (home_of homes i)) (Some l) → ((m : ℕ) (k : Link) → link_of slots i (down m) ≡ Some k → m ≡ l) → HasOneLabel slots homes (paths_of z group) i l
one_alone z group slots homes i l lt A alone = record { all = all; alone = alone }
  where
    a : Walk
    a = home_of homes i

    all : (q : SpotPath) → Contains (spots_in (paths_of z group)) q → Under q (home_of homes i) → Under q (down l ∷ home_of homes i)
    all q c u =
        let r = spot_is_of z group q c in
        let v : Under (spot_path z (spot_of r.0)) a = subst (λ y. Under y a) (sym r.2) u in
        let x = All-contains (λ p. label_at z (dimension a) (level_of a + 1) p ≡ l) (part_of z group a) r.0 A (in_part z group a r.0 r.1 v) in
        subst (λ y. Under y (down l ∷ a)) r.2 (under-down z (spot_of r.0) a l v lt ∙ eq-eqb (label_at z (dimension a) (level_of a + 1) r.0) l x)

-- a part that is not empty gives a spot under the address
pub spot_in_part : (z : Schema) (group : List Point) (a : Walk) → 0 < length (part_of z group a) → HasSpot (spots_in (paths_of z group)) a
spot_in_part z group a some =
    let f = first_in (part_of z group a) some in let r = of_part z group a f.0 f.1 in
    record { spot = spot_path z (spot_of f.0); is_in = spot_of_point z group f.0 r.0; lies = r.1 }

-- a part's amounts are those under its address
pub amount_in_part : (z : Schema) (group : List Point) (a : Walk) (bin : ℕ) → amount_in (part_of z group a) bin ≡ amount_under (paths_of z group) a bin
amount_in_part z [] a bin = refl
amount_in_part z (x ∷ group) a bin = go (under (spot_path z (spot_of x)) a) refl (amount_in_part z group a bin) ∙ sym (sum_by-cons (λ (w : Weighted). cond (under w.spot a && eqb w.spot.bin bin) w.amount 0) (point_path z x) (paths_of z group))
  where
    go : (b : Bool) → under (spot_path z (spot_of x)) a ≡ b → amount_in (part_of z group a) bin ≡ amount_under (paths_of z group) a bin → amount_in (cond b (x ∷ part_of z group a) (part_of z group a)) bin ≡ cond (under (spot_path z (spot_of x)) a && eqb (spot_of x).bin bin) (weight_of_point x) 0 + amount_under (paths_of z group) a bin
    go true e r =
        sum_by-cons (λ (p : Point). cond (eqb (spot_of p).bin bin) (weight_of_point p) 0) x (part_of z group a)
        ∙ (ap (λ n. cond (eqb (spot_of x).bin bin) (weight_of_point x) 0 + n) r ∙ ap (λ (b : Bool). cond (b && eqb (spot_of x).bin bin) (weight_of_point x) 0 + amount_under (paths_of z group) a bin) (sym e))
    go false e r = r ∙ (zero_more (amount_under (paths_of z group) a bin) ∙ ap (λ (b : Bool). cond (b && eqb (spot_of x).bin bin) (weight_of_point x) 0 + amount_under (paths_of z group) a bin) (sym e))
      where
        zero_more : (n : ℕ) → n ≡ 0 + n
        zero_more n = omega arith

pub weight_in_part : (z : Schema) (group : List Point) (a : Walk) → part_weight (part_of z group a) ≤ total_weight (paths_of z group)
weight_in_part z [] a = omega arith
weight_in_part z (x ∷ group) a = go (under (spot_path z (spot_of x)) a) (weight_in_part z group a)
  where
    go : (b : Bool) → part_weight (part_of z group a) ≤ total_weight (paths_of z group) → part_weight (cond b (x ∷ part_of z group a) (part_of z group a)) ≤ total_weight (paths_of z (x ∷ group))
    go true r = let s = sum_by-cons (λ (p : Point). weight_of_point p) x (part_of z group a) in let t = sum_by-cons (λ (w : Weighted). w.amount) (point_path z x) (paths_of z group) in omega (arith, r, s, t)
    go false r = let t = sum_by-cons (λ (w : Weighted). w.amount) (point_path z x) (paths_of z group) in omega (arith, r, t)

-- a table is visited by counting its part, for which it has room
pub table_has_room : (z : Schema) (group : List Point) (slots : List Slot) (way : Way) (put : List PutOff) (dim level i : ℕ) (part : List Point) (homes : List Walk) (h : List Weighted) → is_table (slot_of slots i) ≡ true → IsVisitableAt z group slots way put dim level i part homes h → total_count (counts_of (slot_of slots i)) + part_weight part ≤ 2 ^ 63
table_has_room z group slots way put dim level i part homes h t K =
    let l = table_light slots i (home_of homes i) h (λ bin. K.halfway.counted.still i bin K.in_range t (λ d. earlier-irreflexive d.1)) in
    let w = weight_in_part z group (home_of homes i) in
    let e = ap part_weight K.part_is in
    let s = sum_by-append (λ (w : Weighted). w.amount) (paths_of z group) h in
    let k = K.light in
    omega (arith, l, w, e, s, k)

pub table_part : (z : Schema) (old new : List Slot) (way : Way) (put : List PutOff) (dim level i : ℕ) (part : List Point) → IsAdded old new i (λ bin. amount_in part bin) → VisitsAt z old new way put put dim level i part
table_part z old new way put dim level i part A group homes h K = table_visited (time_dim z) h (paths_of z group) old new homes i put K.points (spot_in_part z group (home_of homes i) (subst (λ x. 0 < length x) K.part_is K.some)) K.halfway (record {
  size = A.size;
  place = A.place;
  kind = A.kind;
  links = A.links;
  here = λ b. A.here b ∙ ap (λ n. count (slot_of old i) b + n) (ap (λ x. amount_in x b) K.part_is ∙ amount_in_part z group (home_of homes i) b);
  old_count = A.old_count;
  old_kind = A.old_kind;
})
