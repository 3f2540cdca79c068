use Rattle.shape_test.proofs.SlotCounts.{row_test}
use Rattle.shape_test.proofs.counts.has_row.Goals as goal

pub returns : goal.returns
returns g c = row_test c.args.arena.now c.args.id.0 c.table.result.now c.is_empty.result c.table.ensures.counts c.is_empty.ensures.counted c.is_empty.ensures.empty
