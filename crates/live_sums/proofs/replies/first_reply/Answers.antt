use Rattle.std.proofs.Common.{Option, length, refl, subst}
use Rattle.std.specs.Prelude.{IfNone, IfSome}
use Rattle.recount.specs.Comparing.{ReadsReply}
use Rattle.recount.specs.Faults.{BeginsWithReply}
use Rattle.recount.specs.declared.replies.NextReply.{NextReply}
use Rattle.reply_json.specs.declared.reply.Reply.{Reply}
use Rattle.session_core.specs.Asked.{reply_line}
use Rattle.live_sums.proofs.NextReplies.{line_cut}
use Rattle.live_sums.proofs.replies.first_reply.Goals as goal

pub returns-in-Some-clause-printable : goal.returns-in-Some-clause-printable
returns-in-Some-clause-printable c =
    (subst (λ (o : Option NextReply). IfSome o (λ n. ReadsReply c.args.held.now n.reply n.line.now n.rest.now)) c.in-Some.is c.in-Ok.ensures.some).0

pub returns-in-Some-clause-within : goal.returns-in-Some-clause-within
returns-in-Some-clause-within c =
    let reads = subst (λ (o : Option NextReply). IfSome o (λ n. ReadsReply c.args.held.now n.reply n.line.now n.rest.now)) c.in-Some.is c.in-Ok.ensures.some in
    (line_cut c.args.held.now c.in-Some.next.line.now (reply_line c.in-Some.next.reply) c.in-Some.next.rest.now (length c.in-Some.next.line.now) reads.1 reads.2 refl).0

pub returns-in-Some-clause-line : goal.returns-in-Some-clause-line
returns-in-Some-clause-line c =
    let reads = subst (λ (o : Option NextReply). IfSome o (λ n. ReadsReply c.args.held.now n.reply n.line.now n.rest.now)) c.in-Some.is c.in-Ok.ensures.some in
    (line_cut c.args.held.now c.in-Some.next.line.now (reply_line c.in-Some.next.reply) c.in-Some.next.rest.now (length c.in-Some.next.line.now) reads.1 reads.2 refl).1

pub returns-in-None-clause-none : goal.returns-in-None-clause-none
returns-in-None-clause-none c w e reply begins = subst (λ (o : Option NextReply). IfNone o ((reply : Reply) → ¬ BeginsWithReply c.args.held.now reply)) c.in-None.is c.in-Ok.ensures.none reply begins
