-- Rows that are made one after the other.
use Rattle.std.proofs.Common.{◌≡◌, ℕ, ◌+◌, ◌*◌, ◌<◌, List, [], ◌∷◌, ◌++◌, length, map, get_or, sym, ◌∙◌, ap, arith}
use Rattle.std.specs.List.{range_with_len}
use Rattle.std.proofs.lemmas.List.{get_or_default}
use Rattle.std.proofs.lemmas.List.FromFn.{map-range_with_len_more}
use Rattle.cube_view.specs.Points.{Point}
use Rattle.cube_view.specs.declared.category.Category.{Category}
use Rattle.cube_view.specs.declared.schema.Schema.{Schema}
use Rattle.query_syntax.specs.Boxes.{box, total}
use Rattle.query_syntax.specs.Items.{values_at}
use Rattle.query_syntax.proofs.SchemaLimits.{values_at-get}
use Rattle.query_syntax.specs.Narrowing.{with_bins, with_value}
use Rattle.query_syntax.specs.Tables.{bins_row, value_row}
use Rattle.query_syntax.specs.declared.query.Query.{Query}
use Rattle.query_syntax.specs.declared.table.RowOut.{RowOut}

-- the next row, after those of the numbers under i
pub one_row_more : (f : ℕ → RowOut) (i : ℕ) (old new : List RowOut) (row : RowOut) → new ≡ old ++ row ∷ [] → old ≡ map f (range_with_len 0 i) → row ≡ f i → new ≡ map f (range_with_len 0 (i + 1))
one_row_more f i old new row pushed so_far is =
    pushed
    ∙ (ap (λ (rows : List RowOut). rows ++ row ∷ []) so_far
    ∙ (ap (λ (r : RowOut). map f (range_with_len 0 i) ++ r ∷ []) is ∙ sym (map-range_with_len_more f 0 i i (omega arith))))

module _ (z : Schema) (q : Query) (h : List Point) where
  pub bins_row_is : (first wide i p n : ℕ) → p ≡ i → n ≡ total z (with_bins (box q) (first + p * wide) (first + (p + 1) * wide)) h → RowOut.Bin (first + p * wide) n ≡ bins_row z q h first wide i
  bins_row_is first wide i p n at counted = ap (λ (m : ℕ). RowOut.Bin (first + p * wide) m) counted ∙ ap (bins_row z q h first wide) at

  pub value_row_is : (k v p n : ℕ) (text : List ℕ) → p ≡ k → text ≡ get_or (values_at z.categories k) v [] → n ≡ total z (with_value (box q) p v) h → RowOut.Value text n ≡ value_row z q h k v
  value_row_is k v p n text at is counted =
      ap (λ (t : List ℕ). RowOut.Value t n) is
      ∙ ap (λ (m : ℕ). RowOut.Value (get_or (values_at z.categories k) v []) m) (counted ∙ ap (λ (j : ℕ). total z (with_value (box q) j v) h) at)

-- the values of a category that was looked up
pub category_values : (y z : Schema) (k p : ℕ) (c : Category) → c ≡ get_or y.categories p c → y ≡ z → p ≡ k → k < length z.categories → c.values ≡ values_at z.categories k
category_values y z k p c is same at lt =
    ap (λ (x : Category). x.values) (is ∙ (ap (λ (x : Schema). get_or x.categories p c) same ∙ ap (λ (j : ℕ). get_or z.categories j c) at)) ∙ sym (values_at-get z.categories k c lt)

-- the text of a value of it
pub value_text_is : (values at_k : List (List ℕ)) (v : ℕ) (found text : List ℕ) → values ≡ at_k → v < length values → found ≡ get_or values v found → text ≡ found → text ≡ get_or at_k v []
value_text_is values at_k v found text same lt is copied = copied ∙ (is ∙ (get_or_default values v found [] lt ∙ ap (λ (xs : List (List ℕ)). get_or xs v []) same))
