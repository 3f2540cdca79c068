-- Points that slots count, one behind the other, and in any order.
use Rattle.std.proofs.Common.{◌≡◌, ℕ, ◌+◌, IsTrue, List, [], ◌++◌, length, refl, sym, subst, subst₂, arith, append-nil, add-zero}
use Rattle.std.proofs.Math.Logic.{∥∥₁_map}
use Rattle.std.proofs.lemmas.List.Sorted.{All-permutation, Contains-permutation, IsPermutation-append_right, IsPermutation-map, IsPermutation-sym, length_permutation, sum_by-IsPermutation}
use Rattle.std.specs.List.Sorted.{IsPermutation}
use Rattle.cube_view.specs.Places.{time_dim}
use Rattle.cube_view.specs.Points.{Point, spot_of}
use Rattle.cube_view.specs.Validity.{sound}
use Rattle.cube_view.specs.declared.schema.Schema.{Schema}
use Rattle.node_arena.specs.Amounts.{Weighted, spots_in}
use Rattle.node_arena.specs.Slots.{Slot}
use Rattle.proper_path.specs.Paths.{point_path, paths_of}
use Rattle.cube_store.specs.Counted.{AddsPoints, CountsPoints, HasPoints}
use Rattle.cube_store.proofs.PointLists.{adds_under, shape_same}

-- slots that count a list count it in each order
pub counts_permuted : (z : Schema) (slots : List Slot) (root size : ℕ) (h k : List Point) → IsPermutation h k → CountsPoints z slots root size h → CountsPoints z slots root size k
counts_permuted z slots root size h k P C =
    let Q : IsPermutation (paths_of z h) (paths_of z k) = IsPermutation-map (λ (p : Point). point_path z p) h k P in
    let S : IsPermutation (spots_in (paths_of z h)) (spots_in (paths_of z k)) = IsPermutation-map (λ (w : Weighted). w.spot) (paths_of z h) (paths_of z k) Q in
    record {
      homes = C.homes;
      shape = shape_same (time_dim z) slots C.homes (paths_of z h) (paths_of z k)
          (λ q c. Contains-permutation (spots_in (paths_of z h)) (spots_in (paths_of z k)) q S c)
          (λ q c. Contains-permutation (spots_in (paths_of z k)) (spots_in (paths_of z h)) q (IsPermutation-sym _ _ S) c)
          (λ a bin. sym (sum_by-IsPermutation (adds_under a bin) (paths_of z h) (paths_of z k) Q))
          C.shape;
      at_top = C.at_top;
      all_sound = All-permutation (λ p. IsTrue (sound z p)) h k P C.all_sound;
      all_four = All-permutation (λ p. length (spot_of p).values ≡ 4) h k P C.all_four;
      number = let n = C.number in let l = length_permutation h k P in omega (arith, n, l);
    }

-- by the same homes
pub counts_permuted-homes : (z : Schema) (slots : List Slot) (root size : ℕ) (h k : List Point) (P : IsPermutation h k) (C : CountsPoints z slots root size h) → (counts_permuted z slots root size h k P C).homes ≡ C.homes
unfolding counts_permuted
counts_permuted-homes z slots root size h k P C = refl

-- no points more
pub adds_none : (z : Schema) (slots : List Slot) (root size : ℕ) → AddsPoints z root size [] slots slots
adds_none z slots root size h C = subst₂ (λ n (k : List Point). CountsPoints z slots root n k) (sym (add-zero size)) (sym (append-nil h)) C

-- slots that counted some list count one afterwards
pub has_added : (z : Schema) (a b : List Slot) (root size : ℕ) (points : List Point) → AddsPoints z root size points a b → HasPoints z a root size → HasPoints z b root (size + length points)
has_added z a b root size points A R = ∥∥₁_map R (λ C. (C.0 ++ points, A C.0 C.1))

-- in whatever order the points came
pub adds_permuted : (z : Schema) (a b : List Slot) (root size : ℕ) (points sorted : List Point) → IsPermutation points sorted → AddsPoints z root size sorted a b → AddsPoints z root size points a b
adds_permuted z a b root size points sorted P A h C =
    let Q : IsPermutation (h ++ sorted) (h ++ points) = IsPermutation-append_right h sorted points (IsPermutation-sym points sorted P) in
    let l = length_permutation points sorted P in
    subst (λ n. CountsPoints z b root (size + n) (h ++ points)) l (counts_permuted z b root (size + length sorted) (h ++ sorted) (h ++ points) Q (A h C))
