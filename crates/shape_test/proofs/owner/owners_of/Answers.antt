use Rattle.std.proofs.Common.{arith}
use Rattle.shape_test.proofs.OwnerLists.{all_noted}
use Rattle.shape_test.proofs.owner.owners_of.Goals as goal

pub returns-clause-owners : goal.returns-clause-owners
returns-clause-owners g c = all_noted c.args.arena.now c.loop-i.i c.loop-i.owners.items (omega arith) c.loop-i.invariant
