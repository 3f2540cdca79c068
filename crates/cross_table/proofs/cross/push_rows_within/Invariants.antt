use Rattle.std.proofs.Common.{◌≡◌, ◌+◌, ◌≤◌, ◌++◌, map}
use Rattle.std.specs.List.{sum_by}
use Rattle.cube_view.specs.Bag.{EachCounted}
use Rattle.cross_table.specs.Costs.{pair_cost}
use Rattle.cross_table.proofs.RowCosts.{values_under}
use Rattle.query_syntax.specs.CrossTables.{pair_row}
use Rattle.cross_table.proofs.cross.push_rows_within.Given as goal

abbrev pub invariant-loop-value : goal.invariant-loop-value
invariant-loop-value g l = record {
  rows : EachCounted (g.V.CubeView.weight_at l.view) (g.V.CubeView.seen l.view) (λ h. l.rows ≡ l.initial.rows ++ map (pair_row (g.V.CubeView.schema l.view) l.query h l.first.category l.second l.first.value) (values_under l.value));
  cost : EachCounted (g.V.CubeView.weight_at l.view) (g.V.CubeView.seen l.view) (λ h. l.steps ≤ l.initial.steps + sum_by (pair_cost (g.V.CubeView.costs l.view) (g.V.CubeView.schema l.view) h l.query l.first.category l.second l.first.value) (values_under l.value));
}
