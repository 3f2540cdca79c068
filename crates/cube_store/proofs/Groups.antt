-- Points that join those of a cube as one group.
use Rattle.std.proofs.Common.{◌≡◌, ℕ, ◌+◌, ◌<◌, ◌≤◌, ◌^◌, IsTrue, All, List, [], ◌∷◌, ◌++◌, length, Contains, refl, sym, ap, subst, subst₂, arith, length-append, inl, inr}
use Rattle.std.proofs.Math.Logic.{∥∥₁_map}
use Rattle.std.proofs.lemmas.List.{map-append}
use Rattle.std.proofs.lemmas.List.Elements.{All-append}
use Rattle.std.proofs.lemmas.List.Sorted.{IsPermutation-append_comm}
use Rattle.cube_view.specs.Bag.{most_points}
use Rattle.cube_view.specs.Places.{time_dim}
use Rattle.cube_view.specs.Points.{Point, spot_of}
use Rattle.cube_view.specs.Validity.{sound}
use Rattle.cube_view.specs.declared.schema.Schema.{Schema}
use Rattle.cube_view.proofs.FinerWalks.{Contains-cases}
use Rattle.group_insert.specs.InsertingAll.{CanInsertAll, HasInsertedAll, InsertsAll, IsInsertableAll}
use Rattle.node_arena.specs.Amounts.{Weighted, spots_in}
use Rattle.node_arena.specs.Shape.{HasShape}
use Rattle.node_arena.specs.Slots.{Slot}
use Rattle.point_insert.specs.Known.{total_weight}
use Rattle.proper_path.specs.Making.{AllOfShape, IsSpotOf}
use Rattle.proper_path.specs.Paths.{point_path, paths_of}
use Rattle.proper_path.proofs.Labels.{spot_of_schema}
use Rattle.cube_store.specs.Counted.{AddsPoints, CountsPoints, HasPoints}
use Rattle.cube_store.proofs.Batches.{counts_permuted}
use Rattle.cube_store.proofs.PointLists.{paths_alike, weight_within}

-- a path of a list of points is that of a point
point_with_path : (z : Schema) (h : List Point) (w : Weighted) → Contains (paths_of z h) w → (p : Point) × (point_path z p ≡ w)
point_with_path z [] w c = absurd (let l = c.1 in omega (arith, l))
point_with_path z (p ∷ h) w c = elim (Contains-cases (paths_of z h) (point_path z p) w c) [
  | inl e ↦ (p, e)
  | inr d ↦ point_with_path z h w d
]

-- sound points may join the points that are counted
insertable_all : (z : Schema) (points : List Point) (slots : List Slot) (root size : ℕ) (h : List Point) → All (λ p. IsTrue (sound z p)) points → size + length points ≤ most_points → (C : CountsPoints z slots root size h) → IsInsertableAll (time_dim z) (paths_of z points) slots C.homes (paths_of z h)
insertable_all z points slots root size h are few C = record { shape = C.shape; alike = alike; spots = spots; light = light }
  where
    joined : paths_of z (points ++ h) ≡ paths_of z points ++ paths_of z h
    joined = map-append (λ (p : Point). point_path z p) points h

    alike : (w : Weighted) → Contains (paths_of z points) w → AllOfShape (spots_in (paths_of z points ++ paths_of z h)) w.spot
    alike w c =
        let p = point_with_path z points w c in
        subst₂ (λ (l : List Weighted) (v : Weighted). AllOfShape (spots_in l) v.spot) joined p.1 (paths_alike z p.0 (points ++ h))

    spots : (w : Weighted) → Contains (paths_of z points) w → IsSpotOf (time_dim z) w.spot
    spots w c =
        let p = point_with_path z points w c in
        subst (λ (v : Weighted). IsSpotOf (time_dim z) v.spot) p.1 (spot_of_schema z p.0)

    light : total_weight (paths_of z points ++ paths_of z h) < 2 ^ 63
    light =
        let w = weight_within z (points ++ h) (All-append (λ p. IsTrue (sound z p)) points h are C.all_sound) in
        let e = ap total_weight joined in
        let l = length-append points h in
        let n = C.number in
        omega (arith, w, e, l, n, few)

pub can_insert_all : (z : Schema) (points : List Point) (slots : List Slot) (root size : ℕ) → All (λ p. IsTrue (sound z p)) points → size + length points ≤ most_points → HasPoints z slots root size → ∥ CanInsertAll (time_dim z) (paths_of z points) slots ∥₁
can_insert_all z points slots root size are few R = ∥∥₁_map R (λ C. record { homes = C.1.homes; points = paths_of z C.0; known = insertable_all z points slots root size C.0 are few C.1 })

-- what a group's insertion leaves of a list that was counted
pub group_inserted : (z : Schema) (points : List Point) (old new : List Slot) (root size : ℕ) (h : List Point) → All (λ p. IsTrue (sound z p)) points → size + length points ≤ most_points → (C : CountsPoints z old root size h) → InsertsAll (time_dim z) (paths_of z points) old new → HasInsertedAll (time_dim z) (paths_of z points) old C.homes (paths_of z h) new
group_inserted z points old new root size h are few C I = I C.homes (paths_of z h) (insertable_all z points old root size h are few C)

-- the list with the points before it is counted ..
pub group_counted : (z : Schema) (points : List Point) (old new : List Slot) (root size : ℕ) (h : List Point) → All (λ p. IsTrue (sound z p)) points → All (λ p. length (spot_of p).values ≡ 4) points → size + length points ≤ most_points → (C : CountsPoints z old root size h) → InsertsAll (time_dim z) (paths_of z points) old new → CountsPoints z new root (size + length points) (points ++ h)
group_counted z points old new root size h are four few C I = record {
  homes = r.homes';
  shape = subst (HasShape (time_dim z) new r.homes') (sym (map-append (λ (p : Point). point_path z p) points h)) r.shape;
  at_top = C.at_top;
  all_sound = All-append (λ p. IsTrue (sound z p)) points h are C.all_sound;
  all_four = All-append (λ p. length (spot_of p).values ≡ 4) points h four C.all_four;
  number = let n = C.number in let l = length-append points h in omega (arith, n, l);
}
  where
    r : HasInsertedAll (time_dim z) (paths_of z points) old C.homes (paths_of z h) new
    r = group_inserted z points old new root size h are few C I

-- .. by the homes that the insertion leaves
pub group_counted-homes : (z : Schema) (points : List Point) (old new : List Slot) (root size : ℕ) (h : List Point) (are : All (λ p. IsTrue (sound z p)) points) (four : All (λ p. length (spot_of p).values ≡ 4) points) (few : size + length points ≤ most_points) (C : CountsPoints z old root size h) (I : InsertsAll (time_dim z) (paths_of z points) old new) → (group_counted z points old new root size h are four few C I).homes ≡ (group_inserted z points old new root size h are few C I).homes'
unfolding group_counted
group_counted-homes z points old new root size h are four few C I = refl

-- .. and so is the list with the points at the end
pub adds_group : (z : Schema) (points : List Point) (old new : List Slot) (root size : ℕ) → All (λ p. IsTrue (sound z p)) points → All (λ p. length (spot_of p).values ≡ 4) points → size + length points ≤ most_points → InsertsAll (time_dim z) (paths_of z points) old new → AddsPoints z root size points old new
adds_group z points old new root size are four few I h C = counts_permuted z new root (size + length points) (points ++ h) (h ++ points) (IsPermutation-append_comm points h) (group_counted z points old new root size h are four few C I)
