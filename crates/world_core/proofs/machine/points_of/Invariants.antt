use Rattle.std.proofs.Common.{◌≡◌, take}
use Rattle.world_core.specs.Interleaving.{entry_points}
use Rattle.world_core.proofs.machine.points_of.Given as goal

abbrev pub invariant-loop-entry : goal.invariant-loop-entry
invariant-loop-entry l = l.points ≡ entry_points (take l.entry-index l.entries)
