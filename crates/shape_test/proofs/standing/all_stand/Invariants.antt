use Rattle.std.proofs.Common.{ℕ, ◌<◌}
use Rattle.shape_test.specs.Homes.{walks_of}
use Rattle.shape_test.specs.Standing.{SlotStands}
use Rattle.shape_test.proofs.standing.all_stand.Given as goal

abbrev pub invariant-loop-i : goal.invariant-loop-i
invariant-loop-i g l = (k : ℕ) → k < l.i → SlotStands l.schema l.arena (walks_of l.homes) k
