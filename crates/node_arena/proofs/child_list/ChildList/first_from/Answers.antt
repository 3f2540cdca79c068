use Rattle.std.proofs.Common.{arith}
use Rattle.node_arena.proofs.ShortLengths.{bits-one, bits-two, bits-three}
use Rattle.node_arena.proofs.child_list.ChildList.first_from.Goals as goal

pub returns-in-One-clause-cost : goal.returns-in-One-clause-cost
returns-in-One-clause-cost g c = omega (arith, bits-one _ _ _ c.in-One.is c.self.view_is)

pub returns-in-Two-clause-cost : goal.returns-in-Two-clause-cost
returns-in-Two-clause-cost g c = omega (arith, bits-two _ _ _ _ c.in-Two.is c.self.view_is)

pub returns-in-Three-clause-cost : goal.returns-in-Three-clause-cost
returns-in-Three-clause-cost g c = omega (arith, bits-three _ _ _ _ _ c.in-Three.is c.self.view_is)
