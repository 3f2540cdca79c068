use Rattle.std.proofs.Common.{length}
use Rattle.recount.proofs.JournalEntries.{SoFar}
use Rattle.recount.proofs.journal.read_journal.Given as goal

abbrev pub invariant-lines : goal.invariant-lines
invariant-lines l = SoFar l.schema l.feeders l.fn.journal l.points.items l.counts l.rest

abbrev pub decreases-lines : goal.decreases-lines
decreases-lines l = length l.rest
