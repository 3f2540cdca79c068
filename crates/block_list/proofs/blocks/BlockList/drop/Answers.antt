use Rattle.std.proofs.Common.{◌∙◌, arith}
use Rattle.block_list.specs.Blocks.{held}
use Rattle.block_list.proofs.Places.{none_left}
use Rattle.block_list.proofs.Laid.{held-length}
use Rattle.block_list.proofs.blocks.BlockList.drop.Goals as goal

pub destroy_empty-requires : goal.destroy_empty-requires
destroy_empty-requires g c =
    let none = none_left (held c.self.inside.blocks.items) c.self.invariant.0.0 (c.self.view_is ∙ c.cut.ensures) in
    let n = c.self.inside.blocks.ok.0 in
    let long = held-length c.self.inside.blocks.items in
    omega arith
