use Rattle.std.proofs.Common.{◌≡◌, length, sym, subst, ◌∙◌}
use Rattle.cube_crew.specs.Begins.{MayRun}
use Rattle.cube_crew.specs.Opened.{IsNewLane}
use Rattle.cube_crew.proofs.run.run_crew.Goals as goal

pub run_opened-requires-clause-jobs : goal.run_opened-requires-clause-jobs
run_opened-requires-clause-jobs g c κs within = subst (λ z. MayRun z c.args.jobs) (sym c.in-Ok.ensures.schema.0) c.requires.jobs

pub run_opened-requires-clause-feeds : goal.run_opened-requires-clause-feeds
run_opened-requires-clause-feeds g c κs within =
    let opened = c.in-Ok.opened in
    let is = c.in-Ok.ensures.feeds in
    let many : c.len-feeds.result ≡ length c.args.jobs.feeds = c.len-feeds.ensures in (
      subst (λ z. IsNewLane z (length c.args.jobs.feeds) opened.ends.items opened.draws) (sym c.in-Ok.ensures.schema.0) (subst (λ n. IsNewLane (g.V.CubeView.schema c.args.first) n opened.ends.items opened.draws) many is.0),
      is.1 ∙ many,
      is.2,
    )
