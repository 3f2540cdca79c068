use Rattle.std.proofs.Common.{◌+◌, drop, List, sym, ◌∙◌, ap, arith}
use Rattle.query_syntax.specs.declared.table.RowOut.{RowOut}
use Rattle.reply_sums.specs.Numbers.{are_rows_great}
use Rattle.reply_sums.specs.Rows.{sum_rows}
use Rattle.reply_sums.proofs.Great.{fits_push}
use Rattle.reply_sums.proofs.RowSums.{after_none, after_sums, rows_apart, sum_step}
use Rattle.reply_sums.proofs.rows.add_rows.Goals as goal

pub returns-then-rows-others-clause-none : goal.returns-then-rows-others-clause-none
returns-then-rows-others-clause-none c e = rows_apart c.args.rows.now c.args.others.now c.if-rows-others.true

pub loop-i-init : goal.loop-i-init
loop-i-init c = record {
  later = ap (λ (s : List RowOut). after_sums s (sum_rows c.args.rows.now c.args.others.now)) c.new-sums.ensures ∙ after_none (sum_rows c.args.rows.now c.args.others.now);
  fits = ap are_rows_great c.new-sums.ensures;
}

pub loop-i-preserved : goal.loop-i-preserved
loop-i-preserved c =
    let step =
    sum_step c.args.rows.now c.args.others.now c.loop-i.i c.index-rows-i.result c.index-others-i.result c.index-rows-i.is c.index-others-i.is (omega arith) (omega arith)
    c.loop-i.sums c.in_ok-sum.sum c.in_ok-sum.ensures.sum
    in
    record {
      later = ap (λ (s : List RowOut). after_sums s (sum_rows (drop (c.loop-i.i + 1) c.args.rows.now) (drop (c.loop-i.i + 1) c.args.others.now))) c.in_ok-add.ensures.added ∙ sym step ∙ c.loop-i.invariant.later;
      fits = ap are_rows_great c.in_ok-add.ensures.added ∙ fits_push c.loop-i.sums c.in_ok-sum.sum c.loop-i.invariant.fits c.in_ok-sum.ensures.fits;
    }
