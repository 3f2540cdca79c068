use Rattle.std.proofs.Common.{◌≡◌, ◌+◌, ◌*◌, ◌≤◌, ◌-◌, ◌++◌, map}
use Rattle.std.specs.List.{filter_map, flat_map, range_with_len}
use Rattle.cube_view.specs.Bag.{EachCounted}
use Rattle.cube_view.specs.Places.{longer_tile, region_address}
use Rattle.query_syntax.specs.Tables.{area_row}
use Rattle.query_syntax.specs.TileOrder.{tiles_inside}
use Rattle.query_walk.specs.Costs.{quadrant_cost, sum_upto}
use Rattle.query_walk.proofs.areas.+drill.Given as goal

abbrev pub decreases-drill : goal.decreases-drill
decreases-drill g l = l.levels

-- the rows of the quadrants so far, and what they cost
abbrev pub invariant-loop-label : goal.invariant-loop-label
invariant-loop-label g l = record {
  rows : EachCounted (g.V.CubeView.weight_at l.view) (g.V.CubeView.seen l.view) (λ h. l.rows ≡ l.initial.rows ++ filter_map (area_row (g.V.CubeView.schema l.view) l.query h) (flat_map (tiles_inside (l.levels - 1)) (map (longer_tile 1 l.tile) (range_with_len 0 l.label))));
  cost : EachCounted (g.V.CubeView.weight_at l.view) (g.V.CubeView.seen l.view) (λ h. l.steps ≤ l.initial.steps + (l.label * (g.V.CubeView.costs l.view).down_cost (region_address l.tile) + sum_upto (quadrant_cost (g.V.CubeView.costs l.view) (g.V.CubeView.schema l.view) h l.query (l.levels - 1) l.tile) l.label));
}
