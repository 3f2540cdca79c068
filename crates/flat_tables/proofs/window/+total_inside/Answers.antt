-- A tile that the rectangle crosses has what its quadrants have, and one outside has nothing.
use Rattle.std.proofs.Common.{◌+◌, ◌∙◌, ap, arith}
use Rattle.cube_view.proofs.Amounts.{amount-within}
use Rattle.cube_view.specs.Bag.{amount, anywhere}
use Rattle.cube_view.specs.Places.{in_tile}
use Rattle.flat_view.specs.Kept.{flat_points, flat_schema}
use Rattle.query_syntax.specs.Windows.{is_in_window}
use Rattle.window_cover.proofs.QuadrantShares as sharing
use Rattle.window_cover.proofs.QuadrantShares.{is_window_under, deep_in, tells_crossed, tells_inside}
use Rattle.flat_tables.proofs.Parts.{amount-filter, part_weighs_little, weigh_little}
use Rattle.flat_tables.proofs.window.+total_inside.Goals as goal

pub returns-then-not-has_tile : goal.returns-then-not-has_tile
returns-then-not-has_tile g t c =
    let view = c.args.view.now in
    let z = flat_schema view in
    let out = tells_inside z _ c.args.rect.now c.args.tile.now _ _ c.schema.ensures c.has_tile.ensures c.if-not-has_tile.true in
    let apart = tells_crossed z _ c.args.rect.now c.args.tile.now _ _ c.schema.ensures c.crosses-is_crossed.ensures.crossed c.if-not-is_crossed.true in
    sharing.none_uncrossed z c.args.query.now c.args.rect.now c.args.tile.now (flat_points view) out apart

pub window_part-requires-clause-light : goal.window_part-requires-clause-light
window_part-requires-clause-light g t c =
    let view = c.args.view.now in
    let w = part_weighs_little (flat_schema view) (in_tile (flat_schema view).depth c.args.tile.now) (flat_points view) view.sound view.few in
    let e = ap (amount anywhere) c.in_tile-points.ensures in
    omega (arith, w, e)

pub returns-then-not-is_crossed-2 : goal.returns-then-not-is_crossed-2
returns-then-not-is_crossed-2 g t c =
    let view = c.args.view.now in
    let q = is_in_window c.args.query.now c.args.rect.now in
    c.window_part.ensures ∙ (ap (amount q) c.in_tile-points.ensures ∙ amount-filter (in_tile (flat_schema view).depth c.args.tile.now) q (flat_points view))

pub loop-label-init : goal.loop-label-init
loop-label-init g t c = sharing.under_none (flat_schema c.args.view.now) c.args.query.now c.args.rect.now c.args.tile.now (flat_points c.args.view.now)

pub overflow_add-sum : goal.overflow_add-sum
overflow_add-sum g t c =
    let view = c.args.view.now in
    let z = flat_schema view in
    let h = flat_points view in
    let deep = deep_in z _ c.args.tile.now c.schema.ensures (c.crosses-is_crossed.ensures.quadrants c.if-not-is_crossed-2.false) in
    let more = sharing.gone_through z c.args.query.now c.args.rect.now c.args.tile.now h c.loop-label.label c.loop-label.sum c.total_inside-sum.result _ deep c.loop-label-test.true c.quadrant.ensures.quadrant c.loop-label.invariant c.total_inside-sum.ensures in
    let most = amount-within (is_window_under z.depth c.args.query.now c.args.rect.now c.args.tile.now (c.loop-label.label + 1)) h in
    let little = weigh_little z h view.sound view.few in
    omega (arith, more, most, little)

pub loop-label-preserved : goal.loop-label-preserved
loop-label-preserved g t c =
    let view = c.args.view.now in
    let z = flat_schema view in
    let deep = deep_in z _ c.args.tile.now c.schema.ensures (c.crosses-is_crossed.ensures.quadrants c.if-not-is_crossed-2.false) in
    sharing.gone_through z c.args.query.now c.args.rect.now c.args.tile.now (flat_points view) c.loop-label.label c.loop-label.sum c.total_inside-sum.result _ deep c.loop-label-test.true c.quadrant.ensures.quadrant c.loop-label.invariant c.total_inside-sum.ensures
