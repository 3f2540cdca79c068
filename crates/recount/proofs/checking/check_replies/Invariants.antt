use Rattle.recount.proofs.ReplyTests.{Audited}
use Rattle.recount.proofs.checking.check_replies.Given as goal

abbrev pub invariant-replies : goal.invariant-replies
invariant-replies l = Audited l.schema l.points l.asked l.fn.replies l.marks l.rest l.without l.i
