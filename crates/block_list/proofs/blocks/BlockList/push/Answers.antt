use Rattle.std.proofs.Common.{arith}
use Rattle.block_list.specs.Blocks.{held}
use Rattle.block_list.proofs.Places.{length_within}
use Rattle.block_list.proofs.blocks.BlockList.push.Goals as goal

pub overflow_add-self : goal.overflow_add-self
overflow_add-self g c =
    let few = c.self.invariant.0.1 in
    let count = c.self.invariant.1 in
    let within = length_within (held c.self.inside.blocks.items) c.self.invariant.0.0 in
    omega arith
