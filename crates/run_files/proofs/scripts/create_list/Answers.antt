use Rattle.std.proofs.Common.{[], Err, ap}
use Rattle.cube_schema.specs.Repeats.{outputs}
use Rattle.run_files.proofs.ScriptReads.{scripts_nothing}
use Rattle.run_files.proofs.SinkReturns.{creates_given_back}
use Rattle.run_files.specs.Outside.{of_place, of_sink}
use Rattle.run_files.proofs.scripts.create_list.Goals as goal

pub returns-in_default-clause-opens : goal.returns-in_default-clause-opens
returns-in_default-clause-opens g c = scripts_nothing (of_place g.P.Place) c.args.place.now [] (outputs c.args.scripts.now)

pub returns-in-Err-clause-opens : goal.returns-in-Err-clause-opens
returns-in-Err-clause-opens g c =
    creates_given_back (of_place g.P.Place) (of_sink g.P.Out.Sink) c.args.place.now c.create_each.new.place c.give_back_sinks-given.new.place (outputs c.args.scripts.now) [] c.create_each.ensures.names.0 c.create_each.new.sinks.items c.in-Err.stop c.ended_after.result c.give_back_sinks-given.result
    c.in-Err.ensures.opens c.give_back_sinks-given.ensures c.create_each.ensures.names.1 c.create_each.ensures.hold_nothing (λ e. c.in-Err.ensures.no_read (ap (λ k. Err k) e)) c.ended_after.ensures
