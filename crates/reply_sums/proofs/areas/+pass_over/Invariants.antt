use Rattle.std.proofs.Common.{◌≡◌, ◌-◌, map}
use Rattle.std.specs.List.{flat_map, range_with_len}
use Rattle.cube_view.specs.Places.{longer_tile}
use Rattle.query_syntax.specs.TileOrder.{tiles_inside}
use Rattle.reply_sums.specs.Areas.{left_after}
use Rattle.reply_sums.proofs.areas.+pass_over.Given as goal

abbrev pub decreases-pass_over : goal.decreases-pass_over
decreases-pass_over l = l.levels

abbrev pub invariant-loop-label : goal.invariant-loop-label
invariant-loop-label l = l.rows ≡ left_after (flat_map (tiles_inside (l.levels - 1)) (map (longer_tile 1 l.tile) (range_with_len 0 l.label))) l.fn.rows
