use Rattle.std.proofs.Common.{rules, sym, subst}
use denote.Param.Send.{sendable}
use Rattle.live_session.specs.Leaves.{LeavesSession}
use Rattle.live_session.specs.Work.{HadNoTurn}
use Rattle.cube_crew.proofs.Zips.{AllZip-each}
use Rattle.cube_crew.proofs.sessions.run_sessions.Goals as goal
use Rattle.live_session.specs.State.{ends_of}

pub for_each_mut-requires-clause-accepts : goal.for_each_mut-requires-clause-accepts
for_each_mut-requires-clause-accepts g c κs within i p below e = (subst (λ w. HadNoTurn w.session) (sym e) (c.requires.no_turn i p.now below), (search sendable depth 20, search sendable depth 20, search sendable depth 20, search sendable depth 20, search sendable depth 20, search sendable depth 20, search sendable depth 20))

pub returns : goal.returns
returns g c =
    AllZip-each (LeavesSession (ends_of g.I.Source g.O.Sink) g.V.CubeView.is_stat) _ _ (search rules)
    (λ i d below.
    let at = (c.for_each_mut.ensures i d below).1 in
    subst (LeavesSession (ends_of g.I.Source g.O.Sink) g.V.CubeView.is_stat _) at.left
    (subst (λ w. LeavesSession (ends_of g.I.Source g.O.Sink) g.V.CubeView.is_stat w at.after_call.now) at.argument_is at.call))
