use Rattle.std.proofs.Common.{List, ap, subst}
use Rattle.cube_view.specs.Points.{Point}
use Rattle.world_core.proofs.Prefixes.{IsPrefix-then}
use Rattle.world_core.specs.PairFact.{IsPrefix}
use Rattle.published_pair.proofs.viewer.Viewer.look.Goals as goal

pub returns-in-Ok-clause-fresh : goal.returns-in-Ok-clause-fresh
returns-in-Ok-clause-fresh g c =
    let list = c.in-Ok.shown.shown.points in
    let learned : IsPrefix c.args.self.learned.points list = subst (λ (h : List Point). IsPrefix h list) (ap (λ k. k.points) c.loop.invariant.learned) c.in-Ok.ensures.shown.1 in
    (IsPrefix-then _ _ _ c.loop.invariant.shown c.in-Ok.ensures.shown.0, learned)
