use Rattle.feed_maker.proofs.Fronts.{TookFront}
use Rattle.feed_maker.proofs.source.GenSourceSource.read.Given as goal

abbrev pub invariant-loop-i : goal.invariant-loop-i
invariant-loop-i l = TookFront l.fn.self l.fn.buf l.self l.buf l.i
