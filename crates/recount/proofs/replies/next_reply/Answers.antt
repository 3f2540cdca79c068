use Rattle.std.proofs.Common.{◌∙◌}
use Rattle.recount.proofs.ReplyTexts.{line_is, begins, begins_none, begins_other}
use Rattle.recount.proofs.replies.next_reply.Goals as goal

pub returns-in-None-clause-none : goal.returns-in-None-clause-none
returns-in-None-clause-none c reply b = begins_none reply c.args.text.now c.in-None.ensures.none b

pub returns-in-Ok-clause-some : goal.returns-in-Ok-clause-some
returns-in-Ok-clause-some c =
    let first = c.in-Some.ensures.some in
    let read = c.in-Ok.ensures.read in
    ((read.0, read.1), first.1 ∙ line_is c.in-Ok.reply c.in-Some.first.line.now read.2, begins c.in-Ok.reply c.args.text.now c.in-Some.first.line.now c.in-Some.first.rest.now first.0 read.2)

pub returns-in-Err-NotReply-clause-none : goal.returns-in-Err-NotReply-clause-none
returns-in-Err-NotReply-clause-none c reply b =
    let first = c.in-Some.ensures.some in
    begins_other reply c.args.text.now c.in-Some.first.line.now c.in-Some.first.rest.now first.0 first.2 (c.in-Err-NotReply.ensures.refused (λ e. cc)) b
