use Rattle.std.proofs.Common.{List, length, ap, arith, ◌∙◌}
use Rattle.std.specs.List.{insert}
use Rattle.time_table.specs.Blocks.{Block, blocks_under}
use Rattle.time_table.proofs.FirstBlocks.{put_last}
use Rattle.time_table.proofs.blocks_of.put_part.Goals as goal

pub totals_of-requires : goal.totals_of-requires
totals_of-requires g c = record { half = omega (arith, c.requires.light.half); small = omega (arith, c.requires.light.small) }

pub overflow_add-total : goal.overflow_add-total
overflow_add-total g c = omega (arith, c.requires.light.half, c.in_ok-block.ensures.total)

pub returns-clause-part : goal.returns-clause-part
returns-clause-part g c =
    let same = ap length c.reserve_block.ensures.unchanged in
    put_last c.args.rows.now (blocks_under c.args.heads.now c.args.blocks.now) _ c.in_ok-block.block _ c.len.result c.len-2.result
    c.len.ensures (omega (arith, same)) c.in_ok-insert.ensures.inserted
    (c.put_block.ensures ∙ ap (λ (bs : List Block). insert bs c.len-2.result c.in_ok-block.block) c.reserve_block.ensures.unchanged)
    c.in_ok-block.ensures.made c.in_ok-block.ensures.room c.requires.least c.requires.most
