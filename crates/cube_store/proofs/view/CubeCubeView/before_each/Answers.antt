use Rattle.std.proofs.Common.{ℕ, length, ap, ◌∙◌, arith}
use Rattle.cube_view.proofs.Ends.{totals-alike}
use Rattle.time_table.specs.Counts.{count_before}
use Rattle.time_table.specs.Series.{each_cost}
use Rattle.cube_store.proofs.Cursors.{slot_in_range, slot_at_time, finds_total, bins-here}
use Rattle.cube_store.proofs.view.CubeCubeView.before_each.Goals as goal

pub table-table-requires-clause-in_range : goal.table-table-requires-clause-in_range
table-table-requires-clause-in_range g c = slot_in_range _ _ _ _ c.args.self.now.counted _ _ c.requires.stands

pub table-table-requires-clause-is_table : goal.table-table-requires-clause-is_table
table-table-requires-clause-is_table g c = slot_at_time _ _ _ _ c.args.self.now.counted _ _ c.requires.stands c.requires.time

pub returns-clause-totals : goal.returns-clause-totals
returns-clause-totals g c h counts =
    let each = λ (e : ℕ). finds_total _ _ _ _ c.args.self.now.counted _ _ c.requires.stands c.requires.time _ c.table-table.ensures.counts c.before_each.ensures.counted e h counts in
    c.before_each.ensures.sums
    ∙ totals-alike c.args.self.now.schema c.args.cursor.address h (count_before c.table-table.result.now) each c.args.from c.args.wide (length c.args.totals.now)

pub returns-clause-cost : goal.returns-clause-cost
returns-clause-cost g c = omega (
  arith,
  c.before_each.ensures.cost,
  c.table-table.ensures.cost,
  ap (each_cost (length c.args.totals.now)) (bins-here _ _ _ _ c.requires.stands c.table-table.result.now c.table-table.ensures.counts c.before_each.ensures.counted),
)
