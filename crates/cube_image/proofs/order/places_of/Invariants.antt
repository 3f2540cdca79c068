use Rattle.cube_image.proofs.OrderFronts.{IsFront}
use Rattle.cube_image.proofs.order.places_of.Given as goal

abbrev pub invariant-loop-i : goal.invariant-loop-i
invariant-loop-i g l = IsFront l.arena l.places l.i
