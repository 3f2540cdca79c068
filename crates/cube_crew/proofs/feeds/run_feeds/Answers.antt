use Rattle.std.proofs.Common.{rules, true, sym, subst}
use Rattle.crew_feeder.specs.Leaving.{HasFed}
use Rattle.crew_feeder.specs.Taking.{IsReady}
use Rattle.cube_crew.proofs.Zips.{AllZip-each}
use Rattle.cube_crew.proofs.feeds.run_feeds.Goals as goal

pub for_each_mut-requires-clause-accepts : goal.for_each_mut-requires-clause-accepts
for_each_mut-requires-clause-accepts g c κs within i p below e = subst (IsReady c.args.schema.now) (sym e) (c.requires.ready i p.now below)

pub returns : goal.returns
returns g c =
    AllZip-each (HasFed g.I.Source.left g.I.Source.faults true) _ _ (search rules)
    (λ i d below.
    let at = (c.for_each_mut.ensures i d below).1 in
    subst (HasFed g.I.Source.left g.I.Source.faults true _) at.left (subst (λ w. HasFed g.I.Source.left g.I.Source.faults true w at.after_call.now) at.argument_is at.call))
