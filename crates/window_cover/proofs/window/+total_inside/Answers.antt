use Rattle.std.proofs.Common.{◌+◌, ◌<◌, ◌^◌, ◌∙◌, ap, arith, sym}
use Rattle.std.specs.Coded.{le_prop}
use Rattle.std.proofs.Math.Logic.{∥∥₁_elim}
use Rattle.cube_view.proofs.PointWeights.{IsBag-small}
use Rattle.cube_view.specs.declared.address.Tile.{Tile}
use Rattle.query_walk.proofs.Sets.{sum_fits}
use Rattle.window_cover.proofs.FromTile.{asked_total, onward_within}
use Rattle.window_cover.proofs.QuadrantShares as sharing
use Rattle.window_cover.proofs.QuadrantShares.{is_window_under, deep_in, tells_crossed, tells_inside}
use Rattle.window_cover.specs.Ways.{inside_cost}
use Rattle.window_cover.proofs.window.+total_inside.Goals.{in-Some, in_default}
use Rattle.window_cover.proofs.window.+total_inside.Goals as goal

pub returns-then-has_tile-clause-total : goal.returns-then-has_tile-clause-total
returns-then-has_tile-clause-total g t c h counts =
    let z = g.V.CubeView.schema c.args.view.now in
    c.total_in_tile.ensures.total h counts ∙ (asked_total z c.args.query.now c.args.tile.now h ∙ sharing.asked_inside z c.args.query.now c.args.rect.now c.args.tile.now h (tells_inside z _ c.args.rect.now c.args.tile.now _ _ c.schema.ensures c.has_tile.ensures c.if-has_tile.true))

pub returns-then-has_tile-clause-cost : goal.returns-then-has_tile-clause-cost
returns-then-has_tile-clause-cost g t c h counts =
    let z = g.V.CubeView.schema c.args.view.now in
    let costs = g.V.CubeView.costs c.args.view.now in
    let walk = c.requires.walk in
    let within = onward_within costs z h c.args.query.now c.args.tile.now (walk.found h counts) walk.has_box walk.tile in
    let step = c.total_in_tile.ensures.cost h counts in
    sharing.inside_paid costs z h c.args.query.now c.args.rect.now c.args.tile.now c.args.steps.now c.total_in_tile.new.steps (tells_inside z _ c.args.rect.now c.args.tile.now _ _ c.schema.ensures c.has_tile.ensures c.if-has_tile.true) (omega (arith, within, step))

pub returns-then-not-crosses-clause-total : goal.returns-then-not-crosses-clause-total
returns-then-not-crosses-clause-total g t c h counts =
    let z = g.V.CubeView.schema c.args.view.now in
    let out = tells_inside z _ c.args.rect.now c.args.tile.now _ _ c.schema.ensures c.has_tile.ensures c.if-has_tile.false in
    let apart = tells_crossed z _ c.args.rect.now c.args.tile.now _ _ c.schema.ensures c.crosses.ensures.crossed c.if-not-crosses.true in
    sharing.none_uncrossed z c.args.query.now c.args.rect.now c.args.tile.now h out apart

pub loop-label-init : goal.loop-label-init
loop-label-init g t c = record {
  total = λ h counts. sharing.under_none (g.V.CubeView.schema c.args.view.now) c.args.query.now c.args.rect.now c.args.tile.now h;
  cost = λ h counts. omega arith;
}

pub total_inside-sum-requires-clause-walk : goal.total_inside-sum-requires-clause-walk
total_inside-sum-requires-clause-walk g t c κs within =
    let z = g.V.CubeView.schema c.args.view.now in
    let deep = deep_in z _ c.args.tile.now c.schema.ensures (c.crosses.ensures.quadrants c.if-not-crosses.false) in
    sharing.comes_to_quadrant _ _ z c.args.query.now c.args.tile.now c.quadrant-below.result c.loop-label.label _ _ deep c.requires.walk c.quadrant-below.ensures.quadrant c.quadrant-below.ensures.within c.in-Some.ensures.place.1 c.in-Some.ensures.found

pub overflow_add-sum : goal.overflow_add-sum
overflow_add-sum g t c =
    let z = g.V.CubeView.schema c.args.view.now in
    let deep = deep_in z _ c.args.tile.now c.schema.ensures (c.crosses.ensures.quadrants c.if-not-crosses.false) in
    let small : c.loop-label.sum + c.total_inside-sum.result < 2 ^ 64 = ∥∥₁_elim (g.met.V.CubeView.bag c.args.view.now).counted le_prop (λ p.
    let more = sharing.gone_through z c.args.query.now c.args.rect.now c.args.tile.now p.0 c.loop-label.label c.loop-label.sum c.total_inside-sum.result _ deep c.loop-label-test.true c.quadrant-below.ensures.quadrant (c.loop-label.invariant.total p.0 p.1) (c.total_inside-sum.ensures.total p.0 p.1) in
    sum_fits (is_window_under z.depth c.args.query.now c.args.rect.now c.args.tile.now (c.loop-label.label + 1)) p.0 c.loop-label.sum c.total_inside-sum.result (sym more) (IsBag-small _ _ (g.met.V.CubeView.bag c.args.view.now) p.0 p.1)) in
    omega (arith, small)

pub loop-label-preserved : goal.loop-label-preserved
loop-label-preserved g t c =
    let z = g.V.CubeView.schema c.args.view.now in
    let costs = g.V.CubeView.costs c.args.view.now in
    let q = c.args.query.now in
    let r = c.args.rect.now in
    let deep = deep_in z _ c.args.tile.now c.schema.ensures (c.crosses.ensures.quadrants c.if-not-crosses.false) in
    record {
      total = λ h counts. elim c.match-down.branch [
        | in-Some w ↦ w.sum-is ∙ sharing.gone_through z q r c.args.tile.now h c.loop-label.label c.loop-label.sum w.total_inside-sum.result _ deep c.loop-label-test.true w.quadrant-below.ensures.quadrant (c.loop-label.invariant.total h counts) (w.total_inside-sum.ensures.total h counts)
        | in_default w ↦ w.sum-is ∙ sharing.passed_over z q r c.args.tile.now h c.loop-label.label c.loop-label.sum _ deep c.loop-label-test.true c.requires.walk.place (w.in_default.ensures.found h counts) (c.loop-label.invariant.total h counts)
      ];
      cost = λ h counts. elim c.match-down.branch [
        | in-Some w ↦
            (let inner = ap (λ (u : Tile). inside_cost costs z h q r u) w.quadrant-below.ensures.quadrant in
            let deeper = w.total_inside-sum.ensures.cost h counts in
            let paid = sharing.paid_more costs z h q r c.args.tile.now c.loop-label.label _ c.args.steps.now c.loop-label.steps c.down.new.steps w.total_inside-sum.new.steps c.requires.walk.place (c.loop-label.invariant.cost h counts) c.down.ensures.cost (omega (arith, inner, deeper)) in
            omega (arith, paid, w.steps-is))
        | in_default w ↦
            (let paid = sharing.paid_past costs z h q r c.args.tile.now c.loop-label.label _ c.args.steps.now c.loop-label.steps c.down.new.steps c.requires.walk.place (c.loop-label.invariant.cost h counts) c.down.ensures.cost in
            omega (arith, paid, w.steps-is))
      ];
    }

pub returns-clause-total : goal.returns-clause-total
returns-clause-total g t c h counts =
    c.loop-label.invariant.total h counts ∙ sharing.under_all (g.V.CubeView.schema c.args.view.now) c.args.query.now c.args.rect.now c.args.tile.now h c.loop-label.label c.loop-label-test.false

pub returns-clause-cost : goal.returns-clause-cost
returns-clause-cost g t c h counts =
    let z = g.V.CubeView.schema c.args.view.now in
    let out = tells_inside z _ c.args.rect.now c.args.tile.now _ _ c.schema.ensures c.has_tile.ensures c.if-has_tile.false in
    let crossed = tells_crossed z _ c.args.rect.now c.args.tile.now _ _ c.schema.ensures c.crosses.ensures.crossed c.if-not-crosses.false in
    let deep = deep_in z _ c.args.tile.now c.schema.ensures (c.crosses.ensures.quadrants c.if-not-crosses.false) in
    sharing.crossed_paid (g.V.CubeView.costs c.args.view.now) z h c.args.query.now c.args.rect.now c.args.tile.now c.loop-label.label c.args.steps.now c.loop-label.steps deep out crossed (c.requires.walk.found h counts) c.loop-label-test.false c.loop-label.auto.label-end (c.loop-label.invariant.cost h counts)
