use Rattle.std.proofs.Common.{◌-◌, ◌++◌, List, ◌∙◌, ap, sym}
use Rattle.std.proofs.lemmas.List.{append-nil, append_assoc}
use Rattle.cube_view.specs.declared.address.Tile.{Tile}
use Rattle.window_cover.specs.Ways.{cover_below, cover_inside}
use Rattle.window_cover.proofs.LargestTiles.{uncrossed_apart, inside_whole, inside_unmet, inside_quadrant, one_quadrant_more, four_quadrants}
use Rattle.window_cover.proofs.largest.+add_inside.Goals as goal

pub returns-then-has_tile : goal.returns-then-has_tile
returns-then-has_tile t c = rw (inside_whole c.args.depth c.args.rect.now c.args.tile.now (sym c.has_tile.ensures ∙ c.if-has_tile.true)) c.add.ensures.added

pub loop-label-preserved : goal.loop-label-preserved
loop-label-preserved t c =
    let here = ap (cover_inside c.args.depth c.args.rect.now) c.quadrant.ensures.quadrant ∙ inside_quadrant c.args.depth c.args.rect.now c.args.tile.now c.loop-label.label in
    let part = cover_below c.args.depth c.args.rect.now (c.args.depth - c.args.tile.now.z - 1) in
    c.in_ok-add_inside.ensures {u = tt}
    ∙ ((λ i. c.loop-label.invariant i ++ here i)
    ∙ (append_assoc c.args.tiles.now _ _
    ∙ ap (λ (ts : List Tile). c.args.tiles.now ++ ts) (sym (one_quadrant_more part c.args.tile.now c.loop-label.label))))

pub returns-after-loop-label : goal.returns-after-loop-label
returns-after-loop-label t c =
    let out = sym c.has_tile.ensures ∙ c.if-has_tile.false in
    four_quadrants c.args.depth c.args.rect.now c.args.tile.now c.loop-label.label c.args.tiles.now c.loop-label.tiles c.loop-label-test.false c.loop-label.auto.label-end (c.crosses.ensures.quadrants c.if-crosses.true) out c.loop-label.invariant

pub returns-else-crosses : goal.returns-else-crosses
returns-else-crosses t c =
    let apart = uncrossed_apart c.args.depth c.args.rect.now c.args.tile.now (sym c.has_tile.ensures ∙ c.if-has_tile.false) (sym c.crosses.ensures.crossed ∙ c.if-crosses.false) in
    sym (append-nil c.args.tiles.now) ∙ ap (λ (ts : List Tile). c.args.tiles.now ++ ts) (sym (inside_unmet c.args.depth c.args.rect.now c.args.tile.now c.requires.tile apart))
