use Rattle.std.proofs.Common.{◌≡◌, false, ◌-◌, map}
use Rattle.std.specs.List.{flat_map, range_with_len}
use Rattle.cube_view.specs.Places.{longer_tile}
use Rattle.query_syntax.specs.TileOrder.{tiles_inside}
use Rattle.reply_sums.specs.Numbers.{are_rows_great}
use Rattle.reply_sums.proofs.AreaSums.{HasAdded}
use Rattle.reply_sums.proofs.areas.+push_sums.Given as goal

abbrev pub decreases-push_sums : goal.decreases-push_sums
decreases-push_sums l = l.levels

abbrev pub invariant-loop-label : goal.invariant-loop-label
invariant-loop-label l = record {
  added : HasAdded (flat_map (tiles_inside (l.levels - 1)) (map (longer_tile 1 l.tile) (range_with_len 0 l.label))) l.fn.sums l.fn.rows l.fn.others l.sums l.rows l.others;
  fits : are_rows_great l.fn.sums ≡ false → are_rows_great l.sums ≡ false;
}
