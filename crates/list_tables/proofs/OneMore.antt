-- The rows of a table, one more.
use Rattle.std.proofs.Common.{◌≡◌, ℕ, ◌+◌, List, [], ◌∷◌, ◌++◌, map, sym, ◌∙◌, ap, arith, append_assoc, append-nil}
use Rattle.std.specs.List.{flat_map, range_with_len}
use Rattle.std.proofs.lemmas.Grind.{flat_map-append}
use Rattle.std.proofs.lemmas.List.{map-id}
use Rattle.std.proofs.lemmas.List.FromFn.{map-range_with_len_more}
use Rattle.query_syntax.specs.declared.table.RowOut.{RowOut}

-- behind the rows of the numbers under n that of n
pub and_row : (row_of : ℕ → RowOut) (start rows : List RowOut) (n : ℕ) → rows ≡ start ++ map row_of (range_with_len 0 n) → rows ++ row_of n ∷ [] ≡ start ++ map row_of (range_with_len 0 (n + 1))
and_row row_of start rows n so_far =
    ap (λ (before : List RowOut). before ++ row_of n ∷ []) so_far
    ∙ (append_assoc start (map row_of (range_with_len 0 n)) (row_of n ∷ []) ∙ ap (λ (all : List RowOut). start ++ all) (sym (map-range_with_len_more row_of 0 n n (omega arith))))

one_longer : (n : ℕ) → range_with_len 0 (n + 1) ≡ range_with_len 0 n ++ n ∷ []
one_longer n =
    sym (map-id (range_with_len 0 (n + 1))) ∙ map-range_with_len_more (λ (v : ℕ). v) 0 n n (omega arith) ∙ ap (λ (before : List ℕ). before ++ n ∷ []) (map-id (range_with_len 0 n))

-- behind the rows within the numbers under n those within n
pub and_rows : (within : ℕ → List RowOut) (rows : List RowOut) (n : ℕ) → rows ≡ flat_map within (range_with_len 0 n) → rows ++ within n ≡ flat_map within (range_with_len 0 (n + 1))
and_rows within rows n so_far =
    ap (λ (before : List RowOut). before ++ within n) so_far
    ∙ sym (ap (flat_map within) (one_longer n) ∙ (flat_map-append within (range_with_len 0 n) (n ∷ []) ∙ ap (λ (last : List RowOut). flat_map within (range_with_len 0 n) ++ last) (append-nil (within n))))
