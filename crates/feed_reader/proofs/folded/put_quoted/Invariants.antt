use Rattle.std.proofs.Common.{length}
use Rattle.feed_reader.proofs.FieldReads.{Copies}
use Rattle.feed_reader.proofs.folded.put_quoted.Given as goal

abbrev pub invariant-loop-n : goal.invariant-loop-n
invariant-loop-n l = Copies l.bytes l.text.items l.left

abbrev pub decreases-loop-n : goal.decreases-loop-n
decreases-loop-n l = length l.left
