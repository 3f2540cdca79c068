use Rattle.std.proofs.Common.{◌-◌, ◌++◌, ◌∙◌, ap, arith}
use Rattle.cube_view.specs.declared.address.Tile.{Tile}
use Rattle.query_walk.specs.Areas.{areas_inside}
use Rattle.query_walk.proofs.MapCosts.{paid_through, paid_past, paid_in_all, paid_whole}
use Rattle.query_walk.proofs.TileRows.{quadrant_gone_through, quadrant_passed_over}
use Rattle.query_walk.proofs.areas.+drill.Goals as goal
use Rattle.query_walk.proofs.areas.+drill.Goals.{in-Some+in_ok-drill, in_default}

pub loop-label-preserved : goal.loop-label-preserved
loop-label-preserved g t c =
    let z = g.V.CubeView.schema c.args.view.now in
    let q = c.args.query.now in
    let n = c.args.levels - 1 in
    let old = c.loop-label.rows in
    let costs = g.V.CubeView.costs c.args.view.now in
    let at = g.V.CubeView.address c.args.view.now c.args.cursor in
    record {
      rows = λ h counts. let so_far = c.loop-label.invariant.rows h counts in elim c.match-down.branch [
        | in-Some+in_ok-drill w ↦
            (let inner = w.in_ok-drill.ensures {u = tt} in
            quadrant_gone_through z q h n c.args.tile.now c.loop-label.label c.args.rows.now old c.match-down.rows so_far
            (w.rows-is ∙ (inner.rows h counts ∙ ap (λ (u : Tile). old ++ areas_inside z q h n u) w.quadrant-below.ensures.quadrant)))
        | in_default w ↦
            (w.rows-is ∙ quadrant_passed_over z q h n c.args.tile.now c.loop-label.label (g.V.CubeView.address c.args.view.now c.args.cursor) c.args.rows.now old c.loop-label-test.true (omega (arith, c.requires.deep, c.if-levels-eq0.false)) c.requires.place (w.in_default.ensures.found h counts) so_far)
      ];
      cost = λ h counts. elim c.match-down.branch [
        | in-Some+in_ok-drill w ↦
            (let deeper = w.drill.ensures.cost h counts in
            let paid = paid_through costs z h q n c.args.tile.now c.loop-label.label at w.quadrant-below.result c.args.steps.now c.loop-label.steps c.down.new.steps w.drill.new.steps (omega (arith, c.requires.deep, c.if-levels-eq0.false)) c.requires.place w.quadrant-below.ensures.quadrant (w.in-Some.ensures.found h counts) (c.loop-label.invariant.cost h counts) c.down.ensures.cost deeper in
            omega (arith, paid, w.steps-is))
        | in_default w ↦
            (let paid = paid_past costs z h q n c.args.tile.now c.loop-label.label at c.args.steps.now c.loop-label.steps c.down.new.steps c.requires.place (c.loop-label.invariant.cost h counts) c.down.ensures.cost in
            omega (arith, paid, w.steps-is))
      ];
    }

pub returns-in_err-drill-clause-cost : goal.returns-in_err-drill-clause-cost
returns-in_err-drill-clause-cost g t c h counts =
    let z = g.V.CubeView.schema c.args.view.now in
    let costs = g.V.CubeView.costs c.args.view.now in
    let n = c.args.levels - 1 in
    let paid = paid_through costs z h c.args.query.now n c.args.tile.now c.loop-label.label (g.V.CubeView.address c.args.view.now c.args.cursor) c.quadrant-below.result c.args.steps.now c.loop-label.steps c.down.new.steps c.drill.new.steps (omega (arith, c.requires.deep, c.if-levels-eq0.false)) c.requires.place c.quadrant-below.ensures.quadrant (c.in-Some.ensures.found h counts) (c.loop-label.invariant.cost h counts) c.down.ensures.cost (c.drill.ensures.cost h counts) in
    paid_in_all costs z h c.args.query.now n c.args.tile.now c.args.levels c.loop-label.label c.args.steps.now c.drill.new.steps (omega (arith, c.if-levels-eq0.false)) c.loop-label-test.true paid

pub returns-clause-cost : goal.returns-clause-cost
returns-clause-cost g t c h counts =
    paid_whole (g.V.CubeView.costs c.args.view.now) (g.V.CubeView.schema c.args.view.now) h c.args.query.now (c.args.levels - 1) c.args.tile.now c.args.levels c.loop-label.label c.args.steps.now c.loop-label.steps (omega (arith, c.if-levels-eq0.false)) c.loop-label-test.false c.loop-label.auto.label-end (c.loop-label.invariant.cost h counts)
