use Rattle.shape_test.specs.Owners.{AreOwners, Before}
use Rattle.shape_test.proofs.owner.owners_of.Given as goal

abbrev pub invariant-loop-i : goal.invariant-loop-i
invariant-loop-i g l = AreOwners l.arena (Before l.i 0) l.owners.items
