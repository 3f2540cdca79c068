use Rattle.std.proofs.Common.{◌-◌, ◌++◌, List, map, sym, ◌∙◌, ap}
use Rattle.std.specs.List.{flat_map, range_with_len}
use Rattle.cube_view.specs.Places.{longer_tile}
use Rattle.cube_view.specs.declared.address.Tile.{Tile}
use Rattle.query_syntax.specs.TileOrder.{tiles_inside}
use Rattle.reply_sums.specs.Areas.{left_after}
use Rattle.reply_sums.proofs.AreaSums.{left-append, left-none, left-one, tiles_more}
use Rattle.reply_sums.proofs.areas.+pass_over.Goals as goal

pub loop-label-init : goal.loop-label-init
loop-label-init t c = sym (left-none c.args.rows.now)

pub loop-label-preserved : goal.loop-label-preserved
loop-label-preserved t c =
    let inside = tiles_inside (c.args.levels - 1) in
    let so_far = flat_map inside (map (longer_tile 1 c.args.tile) (range_with_len 0 c.loop-label.label)) in
    let more = tiles_more inside (longer_tile 1 c.args.tile) c.loop-label.label ∙ ap (λ (q : Tile). so_far ++ inside q) (sym c.quadrant-inner.ensures.quadrant) in
    c.pass_over.ensures ∙ (ap (left_after (inside c.quadrant-inner.result)) c.loop-label.invariant ∙ (sym (left-append so_far (inside c.quadrant-inner.result) c.args.rows.now) ∙ ap (λ (ts : List Tile). left_after ts c.args.rows.now) (sym more)))

pub returns-then-levels-eq0 : goal.returns-then-levels-eq0
returns-then-levels-eq0 t c = c.take.ensures.rest ∙ (sym (left-one c.args.tile c.args.rows.now) ∙ ap (λ n. left_after (tiles_inside n c.args.tile) c.args.rows.now) (sym c.if-levels-eq0.true))
