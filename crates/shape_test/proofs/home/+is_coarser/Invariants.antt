use Rattle.std.proofs.Common.{length}
use Rattle.shape_test.proofs.home.+is_coarser.Given as goal

abbrev pub decreases-is_coarser : goal.decreases-is_coarser
decreases-is_coarser l = length l.b.now
