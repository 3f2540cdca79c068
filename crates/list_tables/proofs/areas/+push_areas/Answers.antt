use Rattle.std.proofs.Common.{◌-◌, map, ap, append_assoc}
use Rattle.std.specs.List.{filter_map, flat_map, range_with_len}
use Rattle.cube_view.specs.Places.{longer_tile}
use Rattle.cube_view.specs.declared.address.Tile.{Tile}
use Rattle.list_tables.specs.Areas.{area_in}
use Rattle.query_syntax.specs.TileOrder.{tiles_inside}
use Rattle.query_syntax.proofs.TableRows.{areas_more}
use Rattle.list_tables.proofs.areas.+push_areas.Goals as goal

pub loop-label-preserved : goal.loop-label-preserved
loop-label-preserved t c =
    let row = area_in c.args.square.now in
    let inside = tiles_inside (c.args.levels - 1) in
    let more = areas_more row inside (longer_tile 1 c.args.tile) c.loop-label.label in
    let here = ap (λ (tile : Tile). filter_map row (inside tile)) c.quadrant.ensures.quadrant in
    let together = append_assoc c.args.rows.now (filter_map row (flat_map inside (map (longer_tile 1 c.args.tile) (range_with_len 0 c.loop-label.label)))) (filter_map row (inside (longer_tile 1 c.args.tile c.loop-label.label))) in
    cc (c.in_ok-push_areas.ensures, c.loop-label.invariant)
