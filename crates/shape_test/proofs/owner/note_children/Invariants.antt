use Rattle.std.proofs.Common.{◌-◌}
use Rattle.shape_test.specs.Owners.{AreOwners, Before}
use Rattle.shape_test.proofs.ChildPlaces.{HasComeToLabel}
use Rattle.shape_test.proofs.owner.note_children.Given as goal

abbrev pub invariant-loop-label : goal.invariant-loop-label
invariant-loop-label l = record {
  so_far : HasComeToLabel l.arena l.id.0 l.from l.i;
  noted : AreOwners l.arena (Before l.id.0 l.from) l.owners;
}

abbrev pub decreases-loop-label : goal.decreases-loop-label
decreases-loop-label l = 256 - l.from
