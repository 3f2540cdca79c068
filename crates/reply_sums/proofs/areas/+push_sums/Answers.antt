use Rattle.std.proofs.Common.{◌≡◌, ◌+◌, ◌-◌, ◌++◌, List, map, sym, ◌∙◌, ap, arith}
use Rattle.std.specs.List.{flat_map, range_with_len}
use Rattle.cube_view.specs.Places.{longer_tile}
use Rattle.cube_view.specs.declared.address.Tile.{Tile}
use Rattle.query_syntax.specs.TileOrder.{tiles_inside}
use Rattle.reply_sums.specs.Areas.{areas_of_both}
use Rattle.reply_sums.specs.Numbers.{are_rows_great}
use Rattle.reply_sums.specs.declared.fault.SumFault.TheVariants as fault
use Rattle.reply_sums.proofs.AreaSums.{added_more, added_none, tiles_all, tiles_more, tiles_part}
use Rattle.reply_sums.proofs.Great.{great_areas}
use Rattle.reply_sums.proofs.ReplySums.{fault_is}
use Rattle.reply_sums.proofs.areas.+push_sums.Goals as goal

pub loop-label-init : goal.loop-label-init
loop-label-init t c = record { added = added_none _ _ _; fits = λ fits. fits }

pub loop-label-preserved : goal.loop-label-preserved
loop-label-preserved t c =
    let inside = tiles_inside (c.args.levels - 1) in
    let so_far = flat_map inside (map (longer_tile 1 c.args.tile) (range_with_len 0 c.loop-label.label)) in
    let more = tiles_more inside (longer_tile 1 c.args.tile) c.loop-label.label ∙ ap (λ (q : Tile). so_far ++ inside q) (sym c.quadrant-part.ensures.quadrant) in
    record {
      added = added_more _ _ _ _ _ _ _ _ _ _ _ _ more c.loop-label.invariant.added (record { sums = c.in_ok-push_sums.ensures.sums; rows = c.in_ok-push_sums.ensures.rows; others = c.in_ok-push_sums.ensures.others });
      fits = λ fits. c.in_ok-push_sums.ensures.fits (c.loop-label.invariant.fits fits);
    }

pub returns-in_err-push_sums-clause-great : goal.returns-in_err-push_sums-clause-great
returns-in_err-push_sums-clause-great t c e =
    let inside = tiles_inside (c.args.levels - 1) in
    let at = longer_tile 1 c.args.tile in
    let n = c.loop-label.label in
    let so_far = flat_map inside (map at (range_with_len 0 n)) in
    let part = tiles_part inside at n (3 - n) in
    let four : 4 ≡ n + 1 + (3 - n) = omega arith in
    let tiles = tiles_all c.args.levels c.args.tile c.if-levels-eq0.false ∙ (ap (λ m. flat_map inside (map at (range_with_len 0 m))) four ∙ (part.1 ∙ ap (λ (q : Tile). so_far ++ (inside q ++ part.0)) (sym c.quadrant-part.ensures.quadrant))) in
    ap (λ (ts : List Tile). are_rows_great (areas_of_both ts c.args.rows.now c.args.others.now)) tiles
    ∙ great_areas so_far (inside c.quadrant-part.result) part.0 c.args.rows.now c.args.others.now c.loop-label.rows c.loop-label.others c.loop-label.invariant.added.rows c.loop-label.invariant.added.others
    (c.in_err-push_sums.ensures.great (fault_is c.from_residual.result c.in_err-push_sums.field-0.0 fault.TooMuch c.from_residual.ensures.1 e))
