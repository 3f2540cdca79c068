-- A cube is a bag of its points.
use Rattle.std.proofs.Common.{◌≡◌, ℕ, suc, ◌<◌, ◌≤◌, Bool, true, false, cond, ◌&&◌, eqb, All, List, [], ◌∷◌, length, get_or, refl, sym, ◌∙◌, ap, subst, arith}
use Rattle.std.proofs.Math.Logic.{∥∥₁_elim}
use Rattle.std.specs.Coded.{le_prop}
use Rattle.std.proofs.lemmas.Bool.{and_parts, and_from, eqb-true, eq-eqb}
use Rattle.std.proofs.lemmas.List.Sums.{sum_by-cons}
use Rattle.cube_view.specs.Bag.{most_points, is_spot, gives, bag_weight, Counts, IsBag}
use Rattle.cube_view.specs.Paths.{spot_path}
use Rattle.cube_view.specs.Places.{time_dim}
use Rattle.cube_view.specs.Points.{Point, spot_of, weight_of_point, point_at}
use Rattle.cube_view.specs.Walks.{under, whole}
use Rattle.cube_view.specs.declared.schema.Schema.{Schema}
use Rattle.cube_view.specs.declared.spot.Spot.{Spot}
use Rattle.cube_view.proofs.Amounts.{amount-nil, amount-cons, gives-no}
use Rattle.cube_view.proofs.Apart.{is_spot-refl, is_spot-same}
use Rattle.cube_view.proofs.FinerWalks.{iff_same}
use Rattle.cube_view.proofs.PointWeights.{sound-fits, IsBag-counting}
use Rattle.node_arena.specs.Amounts.{amount_under, Weighted}
use Rattle.node_arena.specs.Reach.{weight_at}
use Rattle.node_arena.specs.Slots.{Slot}
use Rattle.node_arena.proofs.Walks.{weight_counts}
use Rattle.proper_path.proofs.Labels.{spot_of_schema, shape-point_path}
use Rattle.proper_path.specs.Paths.{point_path, paths_of}
use Rattle.cube_store.specs.Counted.{CountsPoints, HasPoints}
use Rattle.cube_store.specs.Reading.{is_countable, spot_weight}
use Rattle.cube_store.proofs.SpotPaths.{IsOfSchema, of_schema, of_test, same_spot}
use Rattle.cube_store.proofs.Whole.{same_paths, under_whole}

-- a spot lies under the whole walk of another one in its bin exactly where the two are one
whole_tells : (z : Schema) (s t : Spot) → IsOfSchema z s → IsOfSchema z t → (under (spot_path z t) (whole (spot_path z s)) && eqb t.bin s.bin) ≡ is_spot s t
whole_tells z s t S T = iff_same _ _
    (λ e. let parts = and_parts (under (spot_path z t) (whole (spot_path z s))) (eqb t.bin s.bin) e in
    let paths = same_paths (spot_path z t) (spot_path z s) (shape-point_path z (point_at t) (point_at s)) parts.0 in
    let one : t ≡ s = same_spot z t s T S paths (eqb-true _ _ parts.1) in
    subst (λ (q : Spot). is_spot s q ≡ true) (sym one) (is_spot-refl s))
    (λ e. let one : s ≡ t = is_spot-same s t e in
    let some : 0 < length (spot_path z s).paths = let n = (spot_of_schema z (point_at s)).size in omega (arith, n) in
    subst (λ (q : Spot). (under (spot_path z q) (whole (spot_path z s)) && eqb q.bin s.bin) ≡ true) one (and_from _ _ (under_whole (spot_path z s) some) (eq-eqb s.bin s.bin refl)))

-- the points that a cube counts stand at spots of the schema
pub points_of_schema : (z : Schema) (slots : List Slot) (root size : ℕ) (h : List Point) → CountsPoints z slots root size h → All (λ p. IsOfSchema z (spot_of p)) h
points_of_schema z slots root size h C i d lt = of_schema z (spot_of (get_or h i d)) (sound-fits z (get_or h i d) (C.all_sound i d lt)) (C.all_four i d lt)

-- what lies under a spot's whole walk in its bin is what stands at the spot
amount_whole : (z : Schema) (s : Spot) → IsOfSchema z s → (h : List Point) → All (λ p. IsOfSchema z (spot_of p)) h → amount_under (paths_of z h) (whole (spot_path z s)) s.bin ≡ bag_weight s h
amount_whole z s S [] all = sym (amount-nil (is_spot s))
amount_whole z s S (p ∷ h) all =
    let rest = amount_whole z s S h (λ i d lt. all (suc i) d (omega (arith, lt))) in
    let tells = whole_tells z s (spot_of p) S (all 0 p (omega arith)) in
    let a = sum_by-cons (λ (w : Weighted). cond (under w.spot (whole (spot_path z s)) && eqb w.spot.bin s.bin) w.amount 0) (point_path z p) (paths_of z h) in
    let b = amount-cons (is_spot s) p h in
    let first : cond (under (spot_path z (spot_of p)) (whole (spot_path z s)) && eqb (spot_of p).bin s.bin) (weight_of_point p) 0 ≡ gives (is_spot s) p = ap (λ (t : Bool). cond t (weight_of_point p) 0) tells in
    omega (arith, rest, a, b, first)

-- at a spot that is none of the schema nothing stands
nothing_at : (z : Schema) (s : Spot) → is_countable z s ≡ false → (h : List Point) → All (λ p. IsOfSchema z (spot_of p)) h → 0 ≡ bag_weight s h
nothing_at z s none [] all = sym (amount-nil (is_spot s))
nothing_at z s none (p ∷ h) all =
    let rest = nothing_at z s none h (λ i d lt. all (suc i) d (omega (arith, lt))) in
    let a = amount-cons (is_spot s) p h in
    let P : IsOfSchema z (spot_of p) = all 0 p (omega arith) in
    let other : is_spot s (spot_of p) ≡ false = elim (is_spot s (spot_of p)) as (λ b. is_spot s (spot_of p) ≡ b → b ≡ false) [
      | true ↦ λ e.
          let yes : is_countable z s ≡ true = subst (λ (q : Spot). is_countable z q ≡ true) (sym (is_spot-same s (spot_of p) e)) (and_from _ _ P.fits (eq-eqb _ _ P.four)) in
          absurd (let x : true ≡ false = sym yes ∙ none in cc)
      | false ↦ λ e. refl
    ] refl in
    let b = gives-no (is_spot s) p other in
    omega (arith, rest, a, b)

-- the slots count at each spot what the list has there
pub Counts-points : (z : Schema) (slots : List Slot) (root size : ℕ) (h : List Point) → CountsPoints z slots root size h → Counts (spot_weight z slots) size h
Counts-points z slots root size h C = record { weights = weights; number = C.number }
  where
    all : All (λ p. IsOfSchema z (spot_of p)) h
    all = points_of_schema z slots root size h C

    at : (s : Spot) → IsOfSchema z s → weight_at slots (spot_path z s) ≡ bag_weight s h
    at s S =
        let size = (spot_of_schema z (point_at s)).size in
        weight_counts (time_dim z) slots C.homes (paths_of z h) C.shape.shaped (spot_path z s) (omega arith) size ∙ amount_whole z s S h all

    weights : (s : Spot) → spot_weight z slots s ≡ bag_weight s h
    weights s = elim (is_countable z s) as (λ b. is_countable z s ≡ b → cond b (weight_at slots (spot_path z s)) 0 ≡ bag_weight s h) [
      | true ↦ λ e. at s (of_test z s e)
      | false ↦ λ e. nothing_at z s e h all
    ] refl

IsBag-prop : (at : Spot → ℕ) (n : ℕ) → IsProp (IsBag at n)
IsBag-prop at n = hlevel le_prop

-- the bag of a cube is a bag
pub IsBag-cube : (z : Schema) (slots : List Slot) (root size : ℕ) → HasPoints z slots root size → size ≤ most_points → IsBag (spot_weight z slots) size
IsBag-cube z slots root size has few = ∥∥₁_elim has (IsBag-prop (spot_weight z slots) size) (λ C. IsBag-counting z (spot_weight z slots) size C.0 (Counts-points z slots root size C.0 C.1) C.1.all_sound few)
