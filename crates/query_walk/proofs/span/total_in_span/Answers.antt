use Rattle.std.proofs.Common.{arith}
use Rattle.std.specs.Coded.{le_prop}
use Rattle.std.proofs.Math.Logic.{∥∥₁_elim}
use Rattle.query_walk.proofs.Spans.{before_end}
use Rattle.query_walk.proofs.span.total_in_span.Goals as goal

pub overflow_sub-result : goal.overflow_sub-result
overflow_sub-result g c = ∥∥₁_elim (g.met.V.CubeView.bag c.args.view.now).counted le_prop (λ t.
    let a = c.total_before-until_end.ensures.total t.0 t.1 in
    let b = c.total_before-until_start.ensures.total t.0 t.1 in
    let e = before_end (g.V.CubeView.schema c.args.view.now) (g.V.CubeView.address c.args.view.now c.args.cursor) c.args.span.now t.0 c.requires.order in
    omega (arith, a, b, e))

pub returns-clause-total : goal.returns-clause-total
returns-clause-total g c h counts =
    let a = c.total_before-until_end.ensures.total h counts in
    let b = c.total_before-until_start.ensures.total h counts in
    let e = before_end (g.V.CubeView.schema c.args.view.now) (g.V.CubeView.address c.args.view.now c.args.cursor) c.args.span.now h c.requires.order in
    omega (arith, a, b, e)
