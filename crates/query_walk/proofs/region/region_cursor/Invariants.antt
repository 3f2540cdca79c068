use Rattle.std.proofs.Common.{◌≡◌, ◌+◌, ◌≤◌, IsTrue}
use Rattle.cube_view.specs.Bag.{EachCounted}
use Rattle.cube_view.specs.Costs.{is_found, space_cost}
use Rattle.cube_view.specs.Places.{tile_at, region_address}
use Rattle.query_walk.proofs.region.region_cursor.Given as goal

abbrev pub invariant-loop-level : goal.invariant-loop-level
invariant-loop-level g l = record {
  stands : g.V.CubeView.stands l.view l.cursor;
  place : g.V.CubeView.address l.view l.cursor ≡ region_address (tile_at l.tile l.level);
  found : EachCounted (g.V.CubeView.weight_at l.view) (g.V.CubeView.seen l.view) (λ h. IsTrue (is_found (g.V.CubeView.schema l.view) h (tile_at l.tile l.level)));
  cost : EachCounted (g.V.CubeView.weight_at l.view) (g.V.CubeView.seen l.view) (λ h. l.steps ≤ l.initial.steps + space_cost (g.V.CubeView.costs l.view) (g.V.CubeView.schema l.view) h l.tile l.level);
}
