use Rattle.std.proofs.Common.{◌≡◌, ◌+◌, [], ◌∷◌, ◌++◌, get_or, ◌∙◌}
use Rattle.std.proofs.lemmas.List.{get_or_default}
use Rattle.list_tables.proofs.OneMore.{and_row}
use Rattle.list_tables.specs.Pairs.{pair_row_of}
use Rattle.query_syntax.specs.declared.table.RowOut.{RowOut}
use Rattle.list_tables.proofs.pairs.push_rows_within.Goals as goal

pub loop-value-preserved : goal.loop-value-preserved
loop-value-preserved c =
    let n = c.loop-value.value in
    let seconds = c.args.seconds.now in
    let text : c.in_ok-second.second ≡ get_or seconds n [] = c.in_ok-second.ensures ∙ c.index-seconds-value.is ∙ get_or_default seconds n c.index-seconds-value.result [] c.loop-value-test.true in
    c.in_ok-add.ensures.added
    ∙ (λ i. c.loop-value.rows ++ RowOut.Pair (c.in_ok-first.ensures i) (text i) (get_or c.args.totals.now (c.args.start + n) 0) ∷ [])
    ∙ and_row (pair_row_of c.args.first.now seconds c.args.totals.now c.args.start) c.args.rows.now c.loop-value.rows n c.loop-value.invariant
