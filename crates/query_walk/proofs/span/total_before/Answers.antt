use Rattle.query_walk.proofs.Spans.{none_before}
use Rattle.query_walk.proofs.span.total_before.Goals as goal

pub returns-then-end-eq0-clause-total : goal.returns-then-end-eq0-clause-total
returns-then-end-eq0-clause-total g c = λ h _. none_before (g.V.CubeView.schema c.args.view.now) (g.V.CubeView.address c.args.view.now c.args.cursor) c.args.end h c.if-end-eq0.true
