use Rattle.std.proofs.Common.{◌≡◌, IfOk, Err, sym, subst}
use Rattle.query_syntax.specs.declared.query.Parsed.{Parsed}
use Rattle.reply_sums.specs.Sums.{HaveNoSum, IsSum}
use Rattle.reply_sums.specs.declared.fault.SumFault.TheVariants as fault
use Rattle.reply_sums.proofs.Great.{great_by}
use Rattle.reply_sums.proofs.ReplySums.{adds_by}
use Rattle.reply_sums.proofs.ValidSums.{valid_by}
use Rattle.reply_sums.proofs.sums.sum_replies.Goals as goal

pub returns-in-Ask-clause-law : goal.returns-in-Ask-clause-law
returns-in-Ask-clause-law c =
    adds_by c.args.asked.now c.args.reply.now c.args.other.now c.sum_of_query.result c.requires.adds
    (subst (λ (p : Parsed). IfOk c.sum_of_query.result (IsSum p c.args.reply.now c.args.other.now)) (sym c.in-Ask.is) c.sum_of_query.ensures.sum)
    (subst (λ (p : Parsed). c.sum_of_query.result ≡ Err fault.OtherRows → HaveNoSum p c.args.reply.now c.args.other.now) (sym c.in-Ask.is) (λ e sum is. cc (c.sum_of_query.ensures.none e)))

pub returns-in-Ask-clause-great : goal.returns-in-Ask-clause-great
returns-in-Ask-clause-great c e = great_by c.args.asked.now _ c.args.reply.now c.args.other.now c.in-Ask.is (c.sum_of_query.ensures.great e)

pub returns-in-Ask-clause-valid : goal.returns-in-Ask-clause-valid
returns-in-Ask-clause-valid c valid =
    valid_by c.args.asked.now c.args.reply.now c.args.other.now c.sum_of_query.result
    (subst (λ (p : Parsed). IfOk c.sum_of_query.result (IsSum p c.args.reply.now c.args.other.now)) (sym c.in-Ask.is) c.sum_of_query.ensures.sum) valid
