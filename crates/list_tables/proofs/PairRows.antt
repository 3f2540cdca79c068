-- The rows within a value, by the totals of all pairs.
use Rattle.std.proofs.Common.{◌≡◌, ℕ, zero, suc, ◌+◌, ◌*◌, ◌<◌, List, [], ◌∷◌, ◌++◌, length, map, get_or, refl, sym, ◌∙◌, ap, arith}
use Rattle.std.specs.List.{range_with_len}
use Rattle.std.proofs.lemmas.List.FromFn.{map-range_with_len_more}
use Rattle.std.proofs.lemmas.Nat.{div-mul-add, mod-mul-add, mul-add-lt}
use Rattle.cube_view.specs.Points.{Point}
use Rattle.cube_view.specs.declared.schema.Schema.{Schema}
use Rattle.list_tables.specs.Pairs.{pair_row_of}
use Rattle.list_tables.specs.Totals.{AreRowSums}
use Rattle.list_tables.specs.declared.cells.Cells.TheVariants.{Pairs}
use Rattle.query_syntax.specs.Boxes.{box, total}
use Rattle.query_syntax.specs.CrossTables.{pair_total, rows_within, text_of_value, with_pair}
use Rattle.query_syntax.specs.Items.{values_at}
use Rattle.query_syntax.specs.declared.query.Query.{Query}
use Rattle.query_syntax.specs.declared.table.RowOut.{RowOut}

-- two rows that are the same for each number under n
same_under : (f g : ℕ → RowOut) (n : ℕ) → ((w : ℕ) → w < n → f w ≡ g w) → map f (range_with_len 0 n) ≡ map g (range_with_len 0 n)
same_under f g zero same = refl
same_under f g (suc n) same =
    let e : n + 1 ≡ suc n = omega arith in
    let before = same_under f g n (λ w lt. same w (omega (arith, lt))) in
    let last = same n (omega arith) in
    ap (λ k. map f (range_with_len 0 k)) (sym e)
    ∙ (map-range_with_len_more f 0 n n (omega arith)
    ∙ ((λ i. before i ++ last i ∷ [])
    ∙ (sym (map-range_with_len_more g 0 n n (omega arith)) ∙ ap (λ k. map g (range_with_len 0 k)) e)))

module _ (z : Schema) (q : Query) (h : List Point) (k l rows v : ℕ) (text : List ℕ) (seconds : List (List ℕ)) (totals : List ℕ) where
  pub within_is : v < rows → text ≡ text_of_value z k v → seconds ≡ values_at z.categories l → AreRowSums z q (Pairs k l (length seconds)) (length seconds * rows) h totals
      → map (pair_row_of text seconds totals (v * length seconds)) (range_with_len 0 (length seconds)) ≡ rows_within z q h k l v
  within_is lt first second sums =
      same_under (pair_row_of text seconds totals (v * length seconds)) (λ w. RowOut.Pair (text_of_value z k v) (text_of_value z l w) (pair_total z q h k l v w)) (length seconds) each
      ∙ ap (λ (texts : List (List ℕ)). map (λ w. RowOut.Pair (text_of_value z k v) (text_of_value z l w) (pair_total z q h k l v w)) (range_with_len 0 (length texts))) second
    where
      each : (w : ℕ) → w < length seconds → pair_row_of text seconds totals (v * length seconds) w ≡ RowOut.Pair (text_of_value z k v) (text_of_value z l w) (pair_total z q h k l v w)
      each w less =
          let wide = length seconds in
          let at = sums.each (v * wide + w) (mul-add-lt v wide w rows lt less) in
          let high = div-mul-add v wide w less in
          let low = mod-mul-add v wide w less in
          let sum = at ∙ (λ i. total z (with_pair (box q) k l (high i) (low i)) h) in
          λ i. RowOut.Pair (first i) (get_or (second i) w []) (sum i)
