use Rattle.std.proofs.Common.{◌≡◌, ℕ, List, [], ◌∷◌, ◌++◌, get_or, ◌∙◌, ap}
use Rattle.std.proofs.lemmas.List.{get_or_default}
use Rattle.list_tables.proofs.OneMore.{and_row}
use Rattle.query_syntax.specs.Items.{values_at}
use Rattle.query_syntax.specs.Tables.{value_row}
use Rattle.query_syntax.specs.declared.table.RowOut.{RowOut}
use Rattle.list_tables.proofs.values.value_rows.Goals as goal

pub loop-value-preserved : goal.loop-value-preserved
loop-value-preserved c =
    let z = c.args.schema.now in
    let v = c.loop-value.value in
    let texts = c.value_texts-texts.result.now in
    let text : c.in_ok-text.text ≡ get_or (values_at z.categories c.args.k) v [] =
    c.in_ok-text.ensures ∙ c.index-texts-value.is ∙ get_or_default texts v c.index-texts-value.result [] c.loop-value-test.true ∙ ap (λ (l : List (List ℕ)). get_or l v []) c.value_texts-texts.ensures.texts in
    let sum = ap (λ (l : List ℕ). get_or l v 0) c.as_slice-totals.ensures ∙ c.in_ok-found.ensures.each v c.loop-value-test.true in
    c.in_ok-add.ensures.added ∙ (λ i. c.loop-value.rows ++ RowOut.Value (text i) (sum i) ∷ []) ∙ and_row (value_row z c.args.query.now c.args.points.now c.args.k) [] c.loop-value.rows v c.loop-value.invariant
