use Rattle.std.proofs.Common.{arith}
use Rattle.time_table.proofs.SeriesTotals.{rows_within, rows_whole}
use Rattle.time_table.proofs.rows.blocks_len.Goals as goal

pub overflow_add-len : goal.overflow_add-len
overflow_add-len g c = omega (arith, rows_within c.args.blocks.now.items c.deref-block-items.result.now c.loop-block.block-index c.block-item.result c.deref-block-items.ensures.value c.block-item.is (omega arith), c.loop-block.invariant, c.len.ensures)

pub returns : goal.returns
returns g c = omega (arith, rows_whole c.args.blocks.now.items c.deref-block-items.result.now c.loop-block.block-index c.deref-block-items.ensures.value (omega arith), c.loop-block.invariant)
