-- A point adds its weight where it is in the box, and nothing elsewhere.
use Rattle.std.proofs.Common.{ℕ, ◌+◌, ap, sym, ◌∙◌, arith}
use Rattle.query_syntax.specs.Boxes.{box}
use Rattle.query_syntax.proofs.BoxSteps.{total_nothing, total_more, total_same, total_light}
use Rattle.list_tables.proofs.count.count_box.Goals.{then-is_inside, else-is_inside}
use Rattle.list_tables.proofs.count.count_box.Goals as goal

pub loop-point-init : goal.loop-point-init
loop-point-init c = total_nothing c.args.schema.now (box c.args.query.now)

pub overflow_add-sum : goal.overflow_add-sum
overflow_add-sum c =
    let light = total_light c.args.schema.now (box c.args.query.now) c.args.points.now c.loop-point.point-index _ c.loop-point.sum c.loop-point-test.true c.loop-point.invariant (sym c.is_inside.ensures.inside ∙ c.if-is_inside.true) in
    omega (arith, light, c.requires.light)

pub loop-point-preserved : goal.loop-point-preserved
loop-point-preserved c = elim c.if-is_inside.branch [
  | then-is_inside w ↦ w.sum-is ∙ ap (λ (n : ℕ). c.loop-point.sum + n) w.from-sum.ensures ∙ total_more c.args.schema.now (box c.args.query.now) c.args.points.now c.loop-point.point-index _ c.loop-point.sum c.loop-point-test.true c.loop-point.invariant (sym c.is_inside.ensures.inside ∙ w.if-is_inside.true)
  | else-is_inside w ↦ w.sum-is ∙ total_same c.args.schema.now (box c.args.query.now) c.args.points.now c.loop-point.point-index _ c.loop-point.sum c.loop-point-test.true c.loop-point.invariant (sym c.is_inside.ensures.inside ∙ w.if-is_inside.false)
]
