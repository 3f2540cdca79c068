use Rattle.std.proofs.Common.{Option, Err, refl, ap, subst}
use Rattle.std.specs.Prelude.{IfNone, IfSome}
use Rattle.recount.specs.Comparing.{ReadsReply}
use Rattle.recount.specs.Faults.{BeginsWithReply}
use Rattle.recount.specs.declared.replies.NextReply.{NextReply}
use Rattle.reply_json.specs.declared.reply.Reply.{Reply}
use Rattle.share_replies.specs.Shares.{joined_shares}
use Rattle.share_replies.specs.Refusals.{total_of_sum}
use Rattle.share_replies.specs.Sums.{AnswersText, IsSumOver}
use Rattle.share_replies.specs.declared.line.Added.{Added}
use Rattle.share_replies.proofs.LineFaults.{is_few, is_handed, is_none, passes}
use Rattle.share_replies.proofs.LineSums.{handed_on, next_is, no_items, not_few, not_none, some_items}
use Rattle.share_replies.proofs.line.add_next.Goals as goal

pub returns-then-is_empty-clause-law : goal.returns-then-is_empty-clause-law
returns-then-is_empty-clause-law c schema g s later sum answers = (tt, not_few schema s c.args.asked.now later c.args.text.now answers (no_items c.args.text.now c.is_empty.result c.is_empty.ensures c.if-is_empty.true))

pub returns-then-is_empty-clause-wrong : goal.returns-then-is_empty-clause-wrong
returns-then-is_empty-clause-wrong c w e = is_few c.args.asked.now (total_of_sum c.args.sum.now) c.args.text.now w e (no_items c.args.text.now c.is_empty.result c.is_empty.ensures c.if-is_empty.true)

pub returns-in_default-clause-law : goal.returns-in_default-clause-law
returns-in_default-clause-law c schema g s later sum answers =
    (tt, not_none schema s c.args.asked.now later c.args.text.now answers (subst (λ (o : Option NextReply). IfNone o ((reply : Reply) → ¬ BeginsWithReply c.args.text.now reply)) c.in_default.is c.in_ok-next.ensures.none))

pub returns-in_default-clause-wrong : goal.returns-in_default-clause-wrong
returns-in_default-clause-wrong c w e =
    is_none c.args.asked.now (total_of_sum c.args.sum.now) c.args.text.now w e (some_items c.args.text.now c.is_empty.result c.is_empty.ensures c.if-is_empty.false)
    (subst (λ (o : Option NextReply). IfNone o ((reply : Reply) → ¬ BeginsWithReply c.args.text.now reply)) c.in_default.is c.in_ok-next.ensures.none)

pub returns-in_err-sum-clause-law : goal.returns-in_err-sum-clause-law
returns-in_err-sum-clause-law c schema g s later sum answers =
    let reads = subst (λ (o : Option NextReply). IfSome o (λ n. ReadsReply c.args.text.now n.reply n.line.now n.rest.now)) c.in-Some.is c.in_ok-next.ensures.some in
    let final = (next_is schema s c.args.asked.now later c.args.text.now c.in-Some.next.reply c.in-Some.next.line.now c.in-Some.next.rest.now answers reads).0 in
    let adds = c.in_err-sum.ensures.law schema g s sum final in
    handed_on c.from_residual-in_err-sum.result (λ (added : Added). IsSumOver schema (joined_shares g s) c.args.asked.now added.sum × AnswersText schema s later added.rest.now) c.in_err-sum.field-0.0 c.from_residual-in_err-sum.ensures.1 adds.1

pub returns-in_err-sum-clause-wrong : goal.returns-in_err-sum-clause-wrong
returns-in_err-sum-clause-wrong c w e =
    let reads = subst (λ (o : Option NextReply). IfSome o (λ n. ReadsReply c.args.text.now n.reply n.line.now n.rest.now)) c.in-Some.is c.in_ok-next.ensures.some in
    is_handed c.args.asked.now (total_of_sum c.args.sum.now) c.args.text.now c.in-Some.next.reply c.in-Some.next.line.now c.in-Some.next.rest.now reads w c.from_residual-in_err-sum.result c.in_err-sum.field-0.0 c.from_residual-in_err-sum.ensures.1 e
    (λ f. c.in_err-sum.ensures.wrong w (ap (λ k. Err k) f))

pub returns-clause-law : goal.returns-clause-law
returns-clause-law c schema g s later sum answers =
    let reads = subst (λ (o : Option NextReply). IfSome o (λ n. ReadsReply c.args.text.now n.reply n.line.now n.rest.now)) c.in-Some.is c.in_ok-next.ensures.some in
    let next = next_is schema s c.args.asked.now later c.args.text.now c.in-Some.next.reply c.in-Some.next.line.now c.in-Some.next.rest.now answers reads in
    (((c.in_ok-sum.ensures.law schema g s sum next.0).0, next.1), tt)

pub returns-clause-right : goal.returns-clause-right
returns-clause-right c =
    let reads = subst (λ (o : Option NextReply). IfSome o (λ n. ReadsReply c.args.text.now n.reply n.line.now n.rest.now)) c.in-Some.is c.in_ok-next.ensures.some in
    passes c.args.asked.now (total_of_sum c.args.sum.now) c.args.text.now c.in-Some.next.reply c.in-Some.next.line.now c.in-Some.next.rest.now reads (record { sum = c.in_ok-sum.sum; rest = c.in-Some.next.rest }) refl c.in_ok-sum.ensures.right
