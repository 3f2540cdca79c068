use Rattle.std.proofs.Common.{◌+◌, drop, sym, ◌∙◌, ap, arith, refl}
use Rattle.std.specs.Prelude.{is_some}
use Rattle.reply_sums.specs.Rows.{sum_row, sum_rows}
use Rattle.reply_sums.proofs.Great.{alike_step, alike_stop}
use Rattle.reply_sums.proofs.RowSums.{rows_apart, sums_at}
use Rattle.reply_sums.proofs.rows.are_alike.Goals as goal

pub returns-then-others-rows : goal.returns-then-others-rows
returns-then-others-rows c = sym (ap is_some (rows_apart c.args.rows.now c.args.others.now (λ e. c.if-others-rows.true (sym e))))

pub loop-i-init : goal.loop-i-init
loop-i-init c = refl

pub loop-i-preserved : goal.loop-i-preserved
loop-i-preserved c =
    let here = sums_at c.args.rows.now c.args.others.now c.loop-i.i c.index-rows-i.result c.index-others-i.result c.index-rows-i.is c.index-others-i.is (omega arith) (omega arith) in
    sym (alike_step (sum_row c.index-rows-i.result c.index-others-i.result) (sum_rows (drop (c.loop-i.i + 1) c.args.rows.now) (drop (c.loop-i.i + 1) c.args.others.now)) (sym c.is_alike.ensures ∙ c.if-not-is_alike.false))
    ∙ sym (ap is_some here)
    ∙ c.loop-i.invariant

pub returns-then-not-is_alike : goal.returns-then-not-is_alike
returns-then-not-is_alike c =
    let here = sums_at c.args.rows.now c.args.others.now c.loop-i.i c.index-rows-i.result c.index-others-i.result c.index-rows-i.is c.index-others-i.is (omega arith) (omega arith) in
    sym (alike_stop (sum_row c.index-rows-i.result c.index-others-i.result) (sum_rows (drop (c.loop-i.i + 1) c.args.rows.now) (drop (c.loop-i.i + 1) c.args.others.now)) (sym c.is_alike.ensures ∙ c.if-not-is_alike.true))
    ∙ sym (ap is_some here)
    ∙ c.loop-i.invariant
