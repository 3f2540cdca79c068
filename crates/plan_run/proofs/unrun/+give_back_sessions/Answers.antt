use Rattle.std.proofs.Common.{◌≡◌, [], ap, rules}
use Rattle.live_session.specs.State.{SessionState}
use Rattle.run_files.specs.Outside.{of_place}
use Rattle.plan_run.proofs.SourcesBack.{returned_last, returned_none}
use Rattle.plan_run.proofs.unrun.+give_back_sessions.Goals as goal

pub returns-clause-back : goal.returns-clause-back
returns-clause-back g t c =
    let p = of_place g.P.Place in
    let back = c.give_back_in.ensures in
    returned_last p (λ (session : SessionState g.row.P-In.Denot g.row.P-Out.Denot). g.P.In.Source.faults session.source.source) c.args.place.now c.give_back_sessions-sinks.new.place c.give_back_in.new.self c.args.sessions.items c.pop.new.self.items c.in-Some.last
    (g.P.In.Source.faults c.into_parts-source.result.0) c.in-Some.ensures.items (ap g.P.In.Source.faults c.into_parts-source.ensures.0) c.give_back_sessions-sinks.ensures.back back.rose back.quiet back.files back.opened back.writing

pub returns-in_default-clause-back : goal.returns-in_default-clause-back
returns-in_default-clause-back g t c =
    let none : c.args.sessions.items ≡ [] = search rules in
    returned_none (of_place g.P.Place) (λ (session : SessionState g.row.P-In.Denot g.row.P-Out.Denot). g.P.In.Source.faults session.source.source) c.args.place.now c.args.sessions.items none
