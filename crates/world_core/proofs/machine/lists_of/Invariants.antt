use Rattle.std.proofs.Common.{◌≡◌}
use Rattle.world_core.specs.Parts.{deque_lists}
use Rattle.world_core.proofs.machine.lists_of.Given as goal

abbrev pub invariant-loop-rest : goal.invariant-loop-rest
invariant-loop-rest l = l.lists ≡ deque_lists l.yielded
