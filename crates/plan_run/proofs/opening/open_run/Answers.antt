use Rattle.std.proofs.Common.{◌≡◌, [], ◌∷◌, Option, Some, None, refl, subst}
use Rattle.outer_io.specs.Files.{Files}
use Rattle.run_files.proofs.Stages.{nothing_made}
use Rattle.run_files.specs.Outside.{of_place, of_sink}
use Rattle.plan_run.proofs.Stages.{run_ended, run_opened, run_residual}
use Rattle.plan_run.specs.Opening.{AreReady}
use Rattle.plan_run.proofs.opening.open_run.Goals as goal

pub returns-in_err-plan-clause-opens : goal.returns-in_err-plan-clause-opens
returns-in_err-plan-clause-opens g c =
    let p = of_place g.P.Place in
    let s = of_sink g.O.Sink in
    run_residual p s c.args.name.now c.args.place.now c.load_plan.new.place c.args.out.now c.load_plan.new.out c.from_residual.result c.in_err-plan.field-0.0 c.from_residual.ensures.1
    (run_ended p s c.args.name.now c.args.place.now c.load_plan.new.place c.args.out.now c.load_plan.new.out c.in_err-plan.field-0.0 c.in_err-plan.ensures.leaves c.in_err-plan.ensures.read c.in_err-plan.ensures.plan)

pub returns-in_err-parts-clause-opens : goal.returns-in_err-parts-clause-opens
returns-in_err-parts-clause-opens g c =
    let p = of_place g.P.Place in
    let s = of_sink g.O.Sink in
    run_residual p s c.args.name.now c.args.place.now c.open_parts.new.place c.args.out.now c.open_parts.new.out c.from_residual-in_err-parts.result c.in_err-parts.field-0.0 c.from_residual-in_err-parts.ensures.1
    (run_opened p s c.args.name.now c.in_ok-plan.plan c.args.place.now c.load_plan.new.place c.open_parts.new.place c.args.out.now c.load_plan.new.out c.open_parts.new.out None (Some c.in_err-parts.field-0.0)
    c.in_ok-plan.ensures.leaves c.in_ok-plan.ensures.plan tt c.in_err-parts.ensures.opens)

pub returns-clause-opens : goal.returns-clause-opens
returns-clause-opens g c =
    let p = of_place g.P.Place in
    let s = of_sink g.O.Sink in
    run_opened p s c.args.name.now c.in_ok-plan.plan c.args.place.now c.load_plan.new.place c.open_parts.new.place c.args.out.now c.load_plan.new.out c.open_parts.new.out (Some c.in_ok-plan.plan) None
    c.in_ok-plan.ensures.leaves c.in_ok-plan.ensures.plan refl c.in_ok-parts.ensures.opens

pub returns-clause-ready : goal.returns-clause-ready
returns-clause-ready g c =
    let p = of_place g.P.Place in
    let leaves = c.in_ok-plan.ensures.leaves in
    let same : g.P.Place.files c.load_plan.new.place ≡ g.P.Place.files c.args.place.now = leaves.untouched (nothing_made p c.args.place.now c.load_plan.new.place (c.args.name.now ∷ []) None leaves) in
    subst (λ (files : Option Files). AreReady g.P.In.Source.left g.P.In.Source.faults (of_sink g.P.Out.Sink) files c.in_ok-plan.plan c.in_ok-parts.parts) same c.in_ok-parts.ensures.ready
