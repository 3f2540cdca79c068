use Rattle.std.proofs.Common.{◌+◌, ◌<◌, ℕ, length, take, refl, sym, subst, arith}
use Rattle.std.specs.Prelude.{IfSome}
use Rattle.list_tables.specs.Totals.{AreRowSums}
use Rattle.list_tables.proofs.Sums.{totals_none, has_room, one_more}
use Rattle.list_tables.proofs.totals.add_points.Goals as goal

pub loop-point-init : goal.loop-point-init
loop-point-init c = totals_none c.args.schema.now c.args.query.now c.args.cells.now (length c.args.totals.now) c.args.totals.now refl c.requires.zeros

pub add_weight-requires : goal.add_weight-requires
add_weight-requires c =
    let n = length c.args.totals.now in
    let count = c.loop-point.invariant.many in
    has_room c.args.schema.now c.args.query.now c.args.cells.now n c.args.points.now c.loop-point.point-index _ c.loop-point.totals c.loop-point-test.true c.loop-point.invariant c.requires.light c.cell_of-found.result
    (λ i lt. c.cell_of-found.ensures.row i (omega (arith, lt, count)))
    (subst (λ (k : ℕ). IfSome c.cell_of-found.result (λ row. row < k)) count c.cell_of-found.ensures.within)

pub loop-point-preserved : goal.loop-point-preserved
loop-point-preserved c =
    let n = length c.args.totals.now in
    let count = c.loop-point.invariant.many in
    let more = one_more c.args.schema.now c.args.query.now c.args.cells.now n c.args.points.now c.loop-point.point-index _ c.loop-point.totals c.loop-point-test.true c.loop-point.invariant c.cell_of-found.result
    (λ i lt. c.cell_of-found.ensures.row i (omega (arith, lt, count)))
    (subst (λ (k : ℕ). IfSome c.cell_of-found.result (λ row. row < k)) count c.cell_of-found.ensures.within) in
    subst (AreRowSums c.args.schema.now c.args.query.now c.args.cells.now n (take (c.loop-point.point-index + 1) c.args.points.now)) (sym c.add_weight.ensures) more
