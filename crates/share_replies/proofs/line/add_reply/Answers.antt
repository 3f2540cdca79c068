use Rattle.std.proofs.Common.{true, None, IfOk, refl, sym, ◌∙◌, subst}
use Rattle.std.proofs.lemmas.Bool.{false≢true}
use Rattle.share_replies.specs.Refusals.{AddsBy, HasOtherRows, IsReplyWrong, total_of_sum}
use Rattle.share_replies.specs.Sums.{IsSumOver}
use Rattle.share_replies.specs.declared.fault.WrongReply.TheVariants as why
use Rattle.share_replies.proofs.FinalReplies.{final_is, final_kind}
use Rattle.share_replies.proofs.LineFaults.{wrong_is}
use Rattle.share_replies.proofs.line.add_reply.Goals as goal

pub returns-then-is_of_kind-clause-law : goal.returns-then-is_of_kind-clause-law
returns-then-is_of_kind-clause-law c schema g s sum final = (sym c.adds_up.ensures ∙ c.if-not-adds_up.true, tt)

pub returns-then-is_of_kind-clause-right : goal.returns-then-is_of_kind-clause-right
returns-then-is_of_kind-clause-right c =
    subst (λ b. AddsBy b c.args.asked.now (total_of_sum c.args.sum.now) c.args.reply.now None) (sym (sym c.adds_up.ensures ∙ c.if-not-adds_up.true)) (sym c.is_of_kind.ensures ∙ c.if-is_of_kind.true, refl)

pub returns-then-not-adds_up-clause-law : goal.returns-then-not-adds_up-clause-law
returns-then-not-adds_up-clause-law c schema g s sum final =
    let kind = final_kind schema s c.args.asked.now c.args.reply.now (sym c.adds_up.ensures ∙ c.if-not-adds_up.true) final in
    (tt, false≢true (sym c.if-is_of_kind.false ∙ c.is_of_kind.ensures ∙ kind))

pub returns-then-not-adds_up-clause-wrong : goal.returns-then-not-adds_up-clause-wrong
returns-then-not-adds_up-clause-wrong c w e =
    subst (IsReplyWrong c.args.asked.now (total_of_sum c.args.sum.now) c.args.reply.now) (wrong_is why.OtherRows w e)
    (subst (λ b. HasOtherRows b c.args.asked.now (total_of_sum c.args.sum.now) c.args.reply.now) (sym (sym c.adds_up.ensures ∙ c.if-not-adds_up.true)) (sym c.is_of_kind.ensures ∙ c.if-is_of_kind.false))

pub returns-in_default-clause-wrong : goal.returns-in_default-clause-wrong
returns-in_default-clause-wrong c w e =
    subst (IsReplyWrong c.args.asked.now (total_of_sum c.args.sum.now) c.args.reply.now) (wrong_is why.OtherRows w e)
    (subst (λ b. HasOtherRows b c.args.asked.now (total_of_sum c.args.sum.now) c.args.reply.now) (sym (sym c.adds_up.ensures ∙ c.if-not-adds_up.false)) (subst (λ o. HasOtherRows true c.args.asked.now (total_of_sum o) c.args.reply.now) (sym c.in_default.is) tt))

pub returns-clause-law : goal.returns-clause-law
returns-clause-law c schema g s sum final =
    let before = subst (IsSumOver schema g c.args.asked.now) c.in-Some.is sum in
    c.sum_with.ensures.law schema g s before.1 (final_is schema s c.args.asked.now c.args.reply.now before.0 final)

pub returns-clause-right : goal.returns-clause-right
returns-clause-right c =
    subst (λ b. IfOk c.sum_with.result (λ next. AddsBy b c.args.asked.now (total_of_sum c.args.sum.now) c.args.reply.now (total_of_sum next))) (sym (sym c.adds_up.ensures ∙ c.if-not-adds_up.false))
    (subst (λ o. IfOk c.sum_with.result (λ next. AddsBy true c.args.asked.now (total_of_sum o) c.args.reply.now (total_of_sum next))) (sym c.in-Some.is) c.sum_with.ensures.right)

pub returns-clause-wrong : goal.returns-clause-wrong
returns-clause-wrong c w e = subst (λ o. IsReplyWrong c.args.asked.now (total_of_sum o) c.args.reply.now w) (sym c.in-Some.is) (c.sum_with.ensures.wrong w e)
