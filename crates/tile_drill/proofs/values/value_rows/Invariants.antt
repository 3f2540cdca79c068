use Rattle.std.proofs.Common.{◌≡◌, ◌+◌, ◌≤◌, map}
use Rattle.std.specs.List.{range_with_len}
use Rattle.cube_view.specs.Bag.{EachCounted}
use Rattle.query_syntax.specs.Tables.{value_row}
use Rattle.query_walk.specs.Costs.{sum_upto}
use Rattle.tile_drill.proofs.RowCosts.{value_cost}
use Rattle.tile_drill.proofs.values.value_rows.Given as goal

abbrev pub invariant-loop-value : goal.invariant-loop-value
invariant-loop-value g l = record {
  rows : EachCounted (g.V.CubeView.weight_at l.view) (g.V.CubeView.seen l.view) (λ h. l.rows ≡ map (value_row (g.V.CubeView.schema l.view) l.query h l.category) (range_with_len 0 l.value));
  cost : EachCounted (g.V.CubeView.weight_at l.view) (g.V.CubeView.seen l.view) (λ h. l.steps ≤ l.initial.steps + sum_upto (value_cost (g.V.CubeView.costs l.view) (g.V.CubeView.schema l.view) h l.query l.category) l.value);
}
