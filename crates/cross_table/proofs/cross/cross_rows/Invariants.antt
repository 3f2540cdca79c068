use Rattle.std.proofs.Common.{◌≡◌, ◌+◌, ◌≤◌}
use Rattle.std.specs.List.{flat_map, sum_by}
use Rattle.cube_view.specs.Bag.{EachCounted}
use Rattle.cross_table.specs.Costs.{within_cost}
use Rattle.cross_table.proofs.RowCosts.{values_under}
use Rattle.query_syntax.specs.CrossTables.{rows_within}
use Rattle.cross_table.proofs.cross.cross_rows.Given as goal

abbrev pub invariant-loop-value : goal.invariant-loop-value
invariant-loop-value g l = record {
  rows : EachCounted (g.V.CubeView.weight_at l.view) (g.V.CubeView.seen l.view) (λ h. l.rows ≡ flat_map (rows_within (g.V.CubeView.schema l.view) l.query h l.first l.second) (values_under l.value));
  cost : EachCounted (g.V.CubeView.weight_at l.view) (g.V.CubeView.seen l.view) (λ h. l.steps ≤ l.initial.steps + sum_by (within_cost (g.V.CubeView.costs l.view) (g.V.CubeView.schema l.view) h l.query l.first l.second) (values_under l.value));
}
