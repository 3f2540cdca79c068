use Rattle.std.proofs.Common.{◌∙◌, ap, arith}
use Rattle.probe_core.specs.Bits.{bits}
use Rattle.cube_store.proofs.Cursors.{slot_in_range, slot_at_time, finds_total, bins-here}
use Rattle.cube_store.proofs.view.CubeCubeView.before.Goals as goal

pub table-table-requires-clause-in_range : goal.table-table-requires-clause-in_range
table-table-requires-clause-in_range g c = slot_in_range _ _ _ _ c.args.self.now.counted _ _ c.requires.stands

pub table-table-requires-clause-is_table : goal.table-table-requires-clause-is_table
table-table-requires-clause-is_table g c = slot_at_time _ _ _ _ c.args.self.now.counted _ _ c.requires.stands c.requires.time

pub returns-clause-total : goal.returns-clause-total
returns-clause-total g c h counts =
    c.before-2.ensures.sum ∙ finds_total _ _ _ _ c.args.self.now.counted _ _ c.requires.stands c.requires.time _ c.table-table.ensures.counts c.before-2.ensures.counted c.args.bin_end h counts

pub returns-clause-cost : goal.returns-clause-cost
returns-clause-cost g c = omega (
  arith,
  c.before-2.ensures.cost,
  c.table-table.ensures.cost,
  ap bits (bins-here _ _ _ _ c.requires.stands c.table-table.result.now c.table-table.ensures.counts c.before-2.ensures.counted),
)
