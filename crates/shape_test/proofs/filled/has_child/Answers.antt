use Rattle.std.proofs.Common.{refl}
use Rattle.shape_test.proofs.ChildPlaces.{at_start}
use Rattle.shape_test.proofs.NodeLinks.{some_child, no_child}
use Rattle.shape_test.proofs.filled.has_child.Goals as goal

pub returns-in-Some : goal.returns-in-Some
returns-in-Some c = (λ y. some_child c.args.arena.now c.args.id.0 _ c.in-Some.ensures.child, λ h. refl)

pub returns-in-None : goal.returns-in-None
returns-in-None c = (λ y. absurd cc, λ h. absurd (no_child c.args.arena.now c.args.id.0 c.in-None.ensures.child h))

pub first_child-requires-clause-place : goal.first_child-requires-clause-place
first_child-requires-clause-place c = (at_start c.args.arena.now c.args.id.0).place
