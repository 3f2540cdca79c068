use Rattle.std.proofs.Common.{◌∙◌, sym}
use Rattle.reply_json.proofs.RepliesRead.{same_reply, invalid_is_none, other_is_none}
use Rattle.reply_json.proofs.reading.read_reply.Goals as goal

pub returns-then-not-is_valid_reply-clause-refused : goal.returns-then-not-is_valid_reply-clause-refused
returns-then-not-is_valid_reply-clause-refused c = λ _. invalid_is_none c.args.bytes.now c.in_ok-reply.reply c.in_ok-reply.ensures.found (sym c.if-not-is_valid_reply.ensures)

pub returns-in-Ok-true-clause-only : goal.returns-in-Ok-true-clause-only
returns-in-Ok-true-clause-only c = λ other text. same_reply c.args.bytes.now c.in_ok-reply.reply other c.in_ok-reply.ensures.found text

pub returns-in-Ok-false-clause-refused : goal.returns-in-Ok-false-clause-refused
returns-in-Ok-false-clause-refused c = λ _. other_is_none c.args.bytes.now c.in_ok-reply.reply c.in_ok-reply.ensures.found (sym c.in-Ok-false.ensures.same ∙ c.in-Ok-false.field-0-test)
