use Rattle.std.proofs.Common.{◌∙◌, ℕ, Vec, Global, ap, arith, List}
use Rattle.std.proofs.lemmas.Slice.Zip.{AllZip-long}
use Rattle.std.specs.Prelude.{vec_capacity}
use Rattle.run_files.specs.Outside.{file_of, of_place, of_sink}
use Rattle.run_files.specs.Scripted.{IsScript}
use Rattle.plan_run.proofs.Readiness.{are_fit, are_new, are_pairs, are_ready}
use Rattle.plan_run.proofs.Stages.{nothing_opened}
use Rattle.plan_run.proofs.opening.open_parts.Goals as goal

pub returns-in-Err-clause-opens : goal.returns-in-Err-clause-opens
returns-in-Err-clause-opens g c =
    nothing_opened (of_place g.P.Place) (of_sink g.O.Sink) c.args.plan.now c.args.place.now c.args.out.now

pub seat_parts-requires-clause-new : goal.seat_parts-requires-clause-new
seat_parts-requires-clause-new g c =
    let s = of_sink g.P.Out.Sink in
    let files = g.P.Place.files c.args.place.now in
    let plan = c.args.plan.now in
    let are = c.in-Ok.ensures.scripts in
    (are_new g.P.In.Source.left g.P.In.Source.faults s files plan.asks c.in-Ok.scripts.asks are.asks, are_new g.P.In.Source.left g.P.In.Source.faults s files plan.finals c.in-Ok.scripts.finals are.finals)

pub seat_parts-requires-clause-pairs : goal.seat_parts-requires-clause-pairs
seat_parts-requires-clause-pairs g c =
    let s = of_sink g.P.Out.Sink in
    let files = g.P.Place.files c.args.place.now in
    let plan = c.args.plan.now in
    let scripts = c.in-Ok.scripts in
    let are = c.in-Ok.ensures.scripts in (
      are_pairs g.P.In.Source.left g.P.In.Source.faults s files plan.asks scripts.asks scripts.ask_outputs are.asks are.ask_outputs,
      are_pairs g.P.In.Source.left g.P.In.Source.faults s files plan.finals scripts.finals scripts.final_outputs are.finals are.final_outputs,
    )

pub seat_parts-requires-clause-room : goal.seat_parts-requires-clause-room
seat_parts-requires-clause-room g c =
    let files = g.P.Place.files c.args.place.now in
    let plan = c.args.plan.now in
    let are = c.in-Ok.ensures.scripts in
    let script = λ (name : List ℕ). IsScript g.P.In.Source.left g.P.In.Source.faults (file_of files name) in
    let asks = AllZip-long script plan.asks c.in-Ok.scripts.asks are.asks in
    let finals = AllZip-long script plan.finals c.in-Ok.scripts.finals are.finals in (
      omega (arith, asks, c.len.ensures, c.in_default.ensures.sessions.0),
      omega (arith, finals, c.len-2.ensures, c.in_default.ensures.sessions.1),
    )

pub returns-in-Ok-clause-ready : goal.returns-in-Ok-clause-ready
returns-in-Ok-clause-ready g c =
    are_ready g.P.In.Source.left g.P.In.Source.faults (of_sink g.P.Out.Sink) (g.P.Place.files c.args.place.now) c.args.plan.now c.in-Ok.feeds c.in-Ok.scripts c.seat_parts.result
    c.in-Ok.ensures.feeds c.in-Ok.ensures.scripts c.seat_parts.ensures.feeds c.seat_parts.ensures.asks c.seat_parts.ensures.finals c.seat_parts.ensures.journal

pub returns-in-Ok-clause-fit : goal.returns-in-Ok-clause-fit
returns-in-Ok-clause-fit g c =
    let s = of_sink g.P.Out.Sink in
    let files = g.P.Place.files c.args.place.now in
    let plan = c.args.plan.now in
    let parts = c.seat_parts.result in
    let sinks = c.seat_parts.ensures.room in
    are_fit g.P.In.Source.left g.P.In.Source.faults s files plan parts c.requires
    (are_ready g.P.In.Source.left g.P.In.Source.faults s files plan c.in-Ok.feeds c.in-Ok.scripts parts c.in-Ok.ensures.feeds c.in-Ok.ensures.scripts c.seat_parts.ensures.feeds c.seat_parts.ensures.asks c.seat_parts.ensures.finals c.seat_parts.ensures.journal)
    (ap (λ (v : Vec g.row.P-Out.Denot Global). v.items) sinks ∙ c.reserve.new.self.sinks_empty)
    (omega (arith, ap (λ (v : Vec g.row.P-Out.Denot Global). vec_capacity v) sinks, c.in_default.ensures.sinks, c.len.ensures, c.len-2.ensures))
