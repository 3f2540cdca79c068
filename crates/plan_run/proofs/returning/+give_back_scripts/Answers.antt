use Rattle.std.proofs.Common.{Vec, Global}
use Rattle.live_session.specs.declared.done.SessionDone.{SessionDone}
use Rattle.run_files.specs.Outside.{of_place}
use Rattle.run_files.specs.declared.counts.ScriptCounts.{ScriptCounts}
use Rattle.plan_run.proofs.PartReturns.{counted_more, returned_more}
use Rattle.plan_run.specs.Counted.{script_counts}
use Rattle.plan_run.proofs.returning.+give_back_scripts.Goals as goal

pub returns-clause-back : goal.returns-clause-back
returns-clause-back g t c =
    returned_more (of_place g.P.Place) (λ (s : SessionDone g.row.P-In.Denot g.row.P-Out.Denot). g.P.In.Source.faults s.source)
    c.args.place.now c.give_back_scripts-sinks.new.place c.give_back_in.new.self c.args.sessions.items c.pop.new.self.items c.in-Some.last c.in-Some.ensures.items c.give_back_scripts-sinks.ensures.back
    c.give_back_in.ensures.rose c.give_back_in.ensures.quiet c.give_back_in.ensures.files c.give_back_in.ensures.opened c.give_back_in.ensures.writing

pub returns-clause-counts : goal.returns-clause-counts
returns-clause-counts g t c =
    counted_more (λ (v : Vec ScriptCounts Global). v.items) (script_counts {I = g.row.P-In.Denot} {O = g.row.P-Out.Denot}) c.give_back_scripts-sinks.result.1 c.with_one_more.result c.args.sessions.items c.pop.new.self.items c.in-Some.last
    c.in-Some.ensures.items c.give_back_scripts-sinks.ensures.counts c.with_one_more.ensures
