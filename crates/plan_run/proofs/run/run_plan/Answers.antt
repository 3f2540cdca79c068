use Rattle.std.proofs.Common.{◌≡◌, Err, rules, subst, sym}
use Rattle.plan_run.proofs.RunEnds.{ended_by_opening, ended_by_parts}
use Rattle.plan_run.specs.Ends.{RunEnds}
use Rattle.run_files.specs.Outside.{at, of_place, of_sink, of_source}
use Rattle.plan_run.proofs.run.run_plan.Goals as goal

pub returns : goal.returns
returns g c =
    let p = of_place g.P.Place in
    let s = of_sink g.P.Out.Sink in
    let t = of_sink g.O.Sink in
    ended_by_parts p t c.args.place.now c.open_run.new.place c.run_parts.new.place c.args.out.now c.open_run.new.out c.run_parts.new.out c.args.name.now c.in_ok-plan.plan
    c.in_ok-plan.ensures.opens c.in_ok-plan.ensures.plan (of_source g.P.In.Source) s c.in_ok-plan.parts c.in_ok-plan.ensures.ready (c.journal_laws.ensures.one, c.accepted_laws.ensures.sound, c.accepted_laws.ensures.within) c.run_parts.result c.run_parts.ensures

pub returns-in_err-plan : goal.returns-in_err-plan
returns-in_err-plan g c =
    let p = of_place g.P.Place in
    let t = of_sink g.O.Sink in
    let stop = c.in_err-plan.field-0.0 in
    let is : c.from_residual.result ≡ Err stop = search rules in
    subst (RunEnds p t (at c.args.place.now c.args.out.now) (at c.open_run.new.place c.open_run.new.out) c.args.name.now) (sym is)
    (ended_by_opening p t c.args.place.now c.open_run.new.place c.args.out.now c.open_run.new.out c.args.name.now stop c.in_err-plan.ensures.opens)
