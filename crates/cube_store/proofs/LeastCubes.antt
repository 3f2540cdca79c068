-- The least cube of its points stays the least one when a group joins it.
use Rattle.std.proofs.Common.{◌≡◌, ℕ, ◌+◌, ◌≤◌, IsTrue, All, List, [], ◌∷◌, ◌++◌, Contains, length, sym, subst, subst₂, arith, append-nil, add-zero, Result, Ok, Err, OnOk}
use Rattle.std.proofs.lemmas.List.{map-append}
use Rattle.std.proofs.lemmas.List.Sorted.{Contains-permutation, IsPermutation-append_comm, IsPermutation-append_right, IsPermutation-map, IsPermutation-sym, length_permutation}
use Rattle.std.specs.List.Sorted.{IsPermutation}
use Rattle.cube_view.specs.Bag.{most_points}
use Rattle.cube_view.specs.Places.{time_dim}
use Rattle.cube_view.specs.Points.{Point, spot_of}
use Rattle.cube_view.specs.Validity.{sound}
use Rattle.cube_view.specs.Walks.{SpotPath, Walk}
use Rattle.cube_view.specs.declared.schema.Schema.{Schema}
use Rattle.least_cube.specs.Least.{HasFiner, IsLeast}
use Rattle.node_arena.specs.Amounts.{Weighted, spots_in}
use Rattle.node_arena.specs.Shape.{home_of}
use Rattle.node_arena.specs.Slots.{Slot}
use Rattle.group_insert.specs.InsertingAll.{HasInsertedAll, InsertsAll}
use Rattle.proper_path.specs.Paths.{point_path, paths_of}
use Rattle.cube_store.specs.Counted.{AddsLeast, CountsLeast}
use Rattle.cube_store.proofs.Batches.{counts_permuted, counts_permuted-homes}
use Rattle.cube_store.proofs.Groups.{group_counted, group_counted-homes, group_inserted}

-- an address that has all spots of a list has all of those among them
less_finer : (all some : List SpotPath) (a : Walk) → ((q : SpotPath) → Contains some q → Contains all q) → HasFiner all a → HasFiner some a
less_finer all some a within F = record { to = F.to; finer = F.finer; differs = F.differs; all = λ q c. F.all q (within q c) }

-- the least cube of a list is that of the list in each order
pub least_permuted : (z : Schema) (slots : List Slot) (root size : ℕ) (h k : List Point) → IsPermutation h k → CountsLeast z slots root size h → CountsLeast z slots root size k
least_permuted z slots root size h k P C =
    let Q : IsPermutation (paths_of z h) (paths_of z k) = IsPermutation-map (λ (p : Point). point_path z p) h k P in
    let S : IsPermutation (spots_in (paths_of z h)) (spots_in (paths_of z k)) = IsPermutation-map (λ (w : Weighted). w.spot) (paths_of z h) (paths_of z k) Q in
    record {
      counts = counts_permuted z slots root size h k P C.counts;
      least = λ i j e is F. C.least i j e is (less_finer (spots_in (paths_of z k)) (spots_in (paths_of z h)) (e ∷ home_of C.counts.homes i) (λ q c. Contains-permutation (spots_in (paths_of z h)) (spots_in (paths_of z k)) q S c)
          (subst (λ (homes : List Walk). HasFiner (spots_in (paths_of z k)) (e ∷ home_of homes i)) (counts_permuted-homes z slots root size h k P C.counts) F));
    }

-- no points more
least_none : (z : Schema) (slots : List Slot) (root size : ℕ) → AddsLeast z root size [] slots slots
least_none z slots root size h C = subst₂ (λ n (k : List Point). CountsLeast z slots root n k) (sym (add-zero size)) (sym (append-nil h)) C

pub least_of_none : (z : Schema) (points : List Point) (slots : List Slot) (root size : ℕ) → length points ≡ 0 → AddsLeast z root size points slots slots
least_of_none z [] slots root size e = least_none z slots root size
least_of_none z (p ∷ points) slots root size e = absurd (omega (arith, e))

-- a group's points
pub adds_least : (z : Schema) (points : List Point) (old new : List Slot) (root size : ℕ) → All (λ p. IsTrue (sound z p)) points → All (λ p. length (spot_of p).values ≡ 4) points → size + length points ≤ most_points → InsertsAll (time_dim z) (paths_of z points) old new → AddsLeast z root size points old new
adds_least z points old new root size are four few I h C = least_permuted z new root (size + length points) (points ++ h) (h ++ points) (IsPermutation-append_comm points h) (record {
  counts = group_counted z points old new root size h are four few C.counts I;
  least = subst₂ (λ (homes : List Walk) (l : List Weighted). IsLeast new homes (spots_in l)) (sym (group_counted-homes z points old new root size h are four few C.counts I)) (sym (map-append (λ (p : Point). point_path z p) points h)) (r.least C.least);
})
  where
    r : HasInsertedAll (time_dim z) (paths_of z points) old C.counts.homes (paths_of z h) new
    r = group_inserted z points old new root size h are few C.counts I

-- in whatever order the points came
pub least_in_order : (z : Schema) (a b : List Slot) (root size : ℕ) (points sorted : List Point) → IsPermutation points sorted → AddsLeast z root size sorted a b → AddsLeast z root size points a b
least_in_order z a b root size points sorted P A h C =
    let Q : IsPermutation (h ++ sorted) (h ++ points) = IsPermutation-append_right h sorted points (IsPermutation-sym points sorted P) in
    subst (λ n. CountsLeast z b root (size + n) (h ++ points)) (length_permutation points sorted P) (least_permuted z b root (size + length sorted) (h ++ sorted) (h ++ points) Q (A h C))

-- nothing is left to say of a single point that goes by the five cases
pub never_group : {A E G : Type 0} (r : Result A E) (X : Type 0) → (G → ⊥) → OnOk r (G → X)
never_group (Ok a) X n = λ x. absurd (n x)
never_group (Err e) X n = tt
