use Rattle.std.proofs.Common.{[]}
use Rattle.plain_cube.specs.Listed.{no_structure}
use Rattle.recount.proofs.ReplyTexts.{asked_valid}
use Rattle.share_replies.proofs.first.first_sum.Goals as goal

pub invariant_of-result : goal.invariant_of-result
invariant_of-result c = record { printable = asked_valid c.args.schema.now no_structure [] 0 c.args.asked.now c.in_ok-reply.reply (c.in_ok-reply.ensures no_structure) }
