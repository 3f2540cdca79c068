use Rattle.std.proofs.Common.{◌≡◌, ◌+◌, sym, ◌∙◌, arith}
use Rattle.reply_sums.specs.Areas.{head_total}
use Rattle.reply_sums.proofs.AreaSums.{left-one, push_none, push_some}
use Rattle.reply_sums.proofs.Great.{one_great}
use Rattle.reply_sums.proofs.ReplySums.{fault_is}
use Rattle.reply_sums.specs.declared.fault.SumFault.TheVariants as fault
use Rattle.reply_sums.proofs.areas.push_sum.Goals as goal

pub returns-then-total-eq0-clause-sums : goal.returns-then-total-eq0-clause-sums
returns-then-total-eq0-clause-sums c = push_none c.args.tile c.args.rows.now c.args.others.now c.args.sums.now (omega (arith, c.take-first.ensures.total, c.take-second.ensures.total, c.in_ok-total.ensures.sum))

pub returns-then-total-eq0-clause-rows : goal.returns-then-total-eq0-clause-rows
returns-then-total-eq0-clause-rows c = c.take-first.ensures.rest ∙ sym (left-one c.args.tile c.args.rows.now)

pub returns-then-total-eq0-clause-others : goal.returns-then-total-eq0-clause-others
returns-then-total-eq0-clause-others c = c.take-second.ensures.rest ∙ sym (left-one c.args.tile c.args.others.now)

pub returns-clause-sums : goal.returns-clause-sums
returns-clause-sums c =
    let one = push_some c.args.tile c.args.rows.now c.args.others.now (λ (e : head_total c.args.tile c.args.rows.now + head_total c.args.tile c.args.others.now ≡ 0). c.if-total-eq0.false (omega (arith, e, c.take-first.ensures.total, c.take-second.ensures.total, c.in_ok-total.ensures.sum))) in
    cc (c.in_ok-add.ensures.added, c.take-first.ensures.total, c.take-second.ensures.total, c.in_ok-total.ensures.sum)

pub returns-clause-rows : goal.returns-clause-rows
returns-clause-rows c = c.take-first.ensures.rest ∙ sym (left-one c.args.tile c.args.rows.now)

pub returns-clause-others : goal.returns-clause-others
returns-clause-others c = c.take-second.ensures.rest ∙ sym (left-one c.args.tile c.args.others.now)

pub returns-in_err-total-clause-great : goal.returns-in_err-total-clause-great
returns-in_err-total-clause-great c e =
    one_great c.args.tile c.args.rows.now c.args.others.now c.take-first.result c.take-second.result c.take-first.ensures.total c.take-second.ensures.total
    (c.in_err-total.ensures.great (fault_is c.from_residual.result c.in_err-total.field-0.0 fault.TooMuch c.from_residual.ensures.1 e))
