-- What insertions do to each list that the bag of a cube counts.
use Rattle.std.proofs.Common.{◌≡◌, ℕ, ◌+◌, ◌<◌, ◌≤◌, List, [], ◌∷◌, ◌++◌, length, get_or, sym, subst, arith, length-append, Result, Ok, Err, OnOk, OnErr}
use Rattle.std.proofs.Math.Logic.{∥∥₁_elim}
use Rattle.std.proofs.Math.Nat.{ℕ_set}
use Rattle.cube_view.specs.Bag.{is_spot, bag_weight, Counts, CountsMore, GrowsBy}
use Rattle.cube_view.specs.Points.{Point}
use Rattle.cube_view.specs.declared.schema.Schema.{Schema}
use Rattle.cube_view.specs.declared.spot.Spot.{Spot}
use Rattle.node_arena.specs.Slots.{Slot}
use Rattle.cube_view.proofs.Alike.{Counts-append}
use Rattle.cube_view.proofs.Amounts.{amount-append}
use Rattle.cube_store.specs.Holding.{CubeCounts}
use Rattle.cube_store.specs.Reading.{spot_weight}
use Rattle.cube_store.specs.declared.cube.Cube.{Cube}
use Rattle.cube_store.proofs.CubeBags.{Counts-points}

abbrev weight_in : Cube → Spot → ℕ
weight_in cube = spot_weight cube.schema cube.arena

Counts-prop : (at : Spot → ℕ) (n : ℕ) (h : List Point) → IsProp (Counts at n h)
Counts-prop at n h = hlevel ℕ_set

-- where one counted list grew by the points, each did
grown : (old new : Cube) (points k h : List Point) → CubeCounts old k → CubeCounts new (k ++ points) → Counts (weight_in old) old.size h → Counts (weight_in new) new.size (h ++ points)
grown old new points k h C D counts =
    let before = Counts-points old.schema old.arena old.root.0 old.size k C in
    let after = Counts-points new.schema new.arena new.root.0 new.size (k ++ points) D in
    let more : (s : Spot) → weight_in new s ≡ weight_in old s + bag_weight s points = λ s.
    let a = after.weights s in
    let b = before.weights s in
    let c = amount-append (is_spot s) k points in
    omega (arith, a, b, c) in
    let size : old.size + length points ≡ new.size = let m = C.number in let n = D.number in let l = length-append k points in omega (arith, m, n, l) in
    subst (λ n. Counts (weight_in new) n (h ++ points)) size (Counts-append (weight_in old) (weight_in new) old.size h points counts more)

module _ {A E : Type 0} (old new : Cube) where
  pub counts_grown : (p : Point) (h : List Point) (r : Result A E) → ((k : List Point) → CubeCounts old k → OnOk r (CubeCounts new (k ++ p ∷ []))) → Counts (weight_in old) old.size h → OnOk r (Counts (weight_in new) new.size (h ++ p ∷ []))
  counts_grown p h (Ok a) inserted counts = ∥∥₁_elim old.counted (Counts-prop _ _ _) (λ C. grown old new (p ∷ []) C.0 h C.1 (inserted C.0 C.1) counts)
  counts_grown p h (Err e) inserted counts = tt

  pub all_grown : (points : List Point) (r : Result A E) → OnOk r (CountsMore (CubeCounts old) (CubeCounts new) points) → OnOk r (GrowsBy (weight_in old) old.size (weight_in new) new.size points)
  all_grown points (Ok a) inserted = λ h counts. ∥∥₁_elim old.counted (Counts-prop _ _ _) (λ C. grown old new points C.0 h C.1 (inserted C.0 C.1) counts)
  all_grown points (Err e) inserted = tt

  -- where the cube is as before, its bag is
  pub counts_kept : (h : List Point) (r : Result A E) → OnErr r ((new.arena ≡ old.arena) × (new.root ≡ old.root) × (new.size ≡ old.size)) → new.schema ≡ old.schema → Counts (weight_in old) old.size h → OnErr r (Counts (weight_in new) new.size h)
  counts_kept h (Ok a) same schema counts = tt
  counts_kept h (Err e) same schema counts =
      let a = subst (λ (z : Schema). Counts (spot_weight z old.arena) old.size h) (sym schema) counts in
      let b = subst (λ (s : List Slot). Counts (spot_weight new.schema s) old.size h) (sym same.0) a in
      subst (λ n. Counts (weight_in new) n h) (sym same.2) b

  -- a list of one point
  pub counts_one : (points : List Point) (d : Point) (r : Result A E) → 1 ≤ length points → length points < 2 → ((k : List Point) → CubeCounts old k → OnOk r (CubeCounts new (k ++ get_or points 0 d ∷ []))) → OnOk r (CountsMore (CubeCounts old) (CubeCounts new) points)
  counts_one [] d r low high inserted = absurd (omega (arith, low))
  counts_one (p ∷ []) d (Ok a) low high inserted = inserted
  counts_one (p ∷ []) d (Err e) low high inserted = tt
  counts_one (p ∷ q ∷ points) d r low high inserted = absurd (omega (arith, high))
