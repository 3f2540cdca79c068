use Rattle.std.proofs.Common.{◌<◌, List, length, arith, ap, ◌∙◌}
use Rattle.std.specs.List.{insert}
use Rattle.time_table.specs.Blocks.{Block}
use Rattle.time_table.proofs.BlockSizes.{sized_at}
use Rattle.time_table.proofs.BlockCopies.{copied_more, take-lists}
use Rattle.time_table.proofs.split.copy_blocks.Goals as goal

pub block_of-requires-clause-few : goal.block_of-requires-clause-few
block_of-requires-clause-few g c = (sized_at c.loop-i.i c.args.blocks.now.items _ c.requires.sized (omega arith) c.index.ensures).most

pub loop-i-preserved : goal.loop-i-preserved
loop-i-preserved g c =
    let within : c.loop-i.i < length c.args.blocks.now.items = omega arith in
    let copied = copied_more c.loop-i.i c.args.blocks.now.items c.loop-i.copies.items c.put_block.new.blocks.items c.index.result.now c.in_ok-copy.copy within c.index.ensures
    c.in_ok-copy.ensures.same c.in_ok-copy.ensures.room c.loop-i.invariant.same c.loop-i.invariant.sized c.requires.sized c.loop-i.invariant.many
    (c.put_block.ensures ∙ ap (λ (zs : List Block). insert zs c.loop-i.i c.in_ok-copy.copy) c.reserve_block.ensures.unchanged) in
    record { same = copied.same; sized = copied.sized; many = copied.many }

pub returns : goal.returns
returns g c = (c.loop-i.invariant.same ∙ take-lists c.loop-i.i c.args.blocks.now.items (omega arith), c.loop-i.invariant.sized)
