use Rattle.std.proofs.Common.{length}
use Rattle.proper_path.proofs.path.clear.Given as goal

abbrev pub decreases-loop-id : goal.decreases-loop-id
decreases-loop-id l = length l.stack
