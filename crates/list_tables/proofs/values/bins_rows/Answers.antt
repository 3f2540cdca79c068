use Rattle.std.proofs.Common.{ℕ, ◌+◌, ◌*◌, List, [], ◌∷◌, ◌++◌, get_or, ◌∙◌, ap, arith}
use Rattle.list_tables.proofs.OneMore.{and_row}
use Rattle.query_syntax.specs.Tables.{bins_row}
use Rattle.query_syntax.specs.declared.table.RowOut.{RowOut}
use Rattle.list_tables.proofs.values.bins_rows.Goals as goal

pub loop-i-preserved : goal.loop-i-preserved
loop-i-preserved c =
    let n = c.loop-i.i in
    let sum = ap (λ (l : List ℕ). get_or l n 0) c.as_slice-totals.ensures ∙ c.in_ok-found.ensures.each n (omega (arith, c.loop-i-test.true)) in
    c.in_ok-add.ensures.added
    ∙ (λ j. c.loop-i.rows ++ RowOut.Bin (c.args.from + c.from-place.ensures j * c.args.wide) (sum j) ∷ [])
    ∙ and_row (bins_row c.args.schema.now c.args.query.now c.args.points.now c.args.from c.args.wide) [] c.loop-i.rows n c.loop-i.invariant
