use Rattle.std.proofs.Common.{◌≡◌, ◌-◌, ◌++◌, map}
use Rattle.std.specs.List.{filter_map, flat_map, range_with_len}
use Rattle.cube_view.specs.Places.{longer_tile}
use Rattle.list_tables.specs.Areas.{area_in}
use Rattle.query_syntax.specs.TileOrder.{tiles_inside}
use Rattle.list_tables.proofs.areas.+push_areas.Given as goal

abbrev pub invariant-loop-label : goal.invariant-loop-label
invariant-loop-label l = l.rows ≡ l.initial.rows ++ filter_map (area_in l.square) (flat_map (tiles_inside (l.levels - 1)) (map (longer_tile 1 l.tile) (range_with_len 0 l.label)))

abbrev pub decreases-push_areas : goal.decreases-push_areas
decreases-push_areas l = l.levels
