use Rattle.std.proofs.Common.{◌≡◌, ◌+◌, ◌*◌, ◌-◌, ◌≤◌}
use Rattle.cube_view.specs.Bag.{amount, EachCounted}
use Rattle.cube_view.specs.Places.{longer_tile, region_address}
use Rattle.query_walk.specs.Costs.{sum_upto}
use Rattle.window_cover.proofs.QuadrantShares.{is_window_under}
use Rattle.window_cover.specs.Ways.{inside_cost}
use Rattle.window_cover.proofs.window.+total_inside.Given as goal

abbrev pub decreases-total_inside : goal.decreases-total_inside
decreases-total_inside g l = (g.V.CubeView.schema l.view.now).depth - l.tile.now.z

-- what the quadrants so far have, and what they cost
abbrev pub invariant-loop-label : goal.invariant-loop-label
invariant-loop-label g l = record {
  total : EachCounted (g.V.CubeView.weight_at l.view) (g.V.CubeView.seen l.view) (λ h. l.sum ≡ amount (is_window_under (g.V.CubeView.schema l.view).depth l.query l.rect l.tile l.label) h);
  cost : EachCounted (g.V.CubeView.weight_at l.view) (g.V.CubeView.seen l.view) (λ h. l.steps ≤ l.initial.steps + (l.label * (g.V.CubeView.costs l.view).down_cost (region_address l.tile) + sum_upto (λ k. inside_cost (g.V.CubeView.costs l.view) (g.V.CubeView.schema l.view) h l.query l.rect (longer_tile 1 l.tile k)) l.label));
}
