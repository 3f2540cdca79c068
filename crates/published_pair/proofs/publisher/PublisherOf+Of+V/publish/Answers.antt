use Rattle.std.proofs.Common.{List, ap, subst, sym}
use Rattle.cube_view.specs.Points.{Point}
use Rattle.world_core.specs.PairFact.{IsPrefix}
use Rattle.world_core.proofs.Prefixes.{IsPrefix-itself}
use Rattle.published_pair.proofs.publisher.PublisherOf+Of+V.publish.Goals as goal

pub returns-in_err-outcome-clause-grows : goal.returns-in_err-outcome-clause-grows
returns-in_err-outcome-clause-grows g c = subst (λ (h : List Point). IsPrefix c.args.self.now.published.points h) (ap (λ k. k.points) (sym c.note.ensures.same.0)) (IsPrefix-itself _)
