use Rattle.std.proofs.Common.{◌≡◌, ◌++◌, [], List, Err, Some, None, ap, map, sym, subst, All}
use Rattle.std.proofs.lemmas.List.{append-nil}
use Rattle.std.proofs.lemmas.List.Elements.{All-map}
use Rattle.cube_schema.specs.Files.{output_names}
use Rattle.outer_io.specs.declared.cutter.LineCutter.{LineCutter}
use Rattle.run_files.proofs.Apart.{none_not_some, same_stop}
use Rattle.run_files.proofs.ScriptReads.{scripts_and_creates, scripts_given_back, scripts_residual}
use Rattle.run_files.specs.Outside.{of_place}
use Rattle.run_files.proofs.scripts.open_scripts.Goals as goal

pub returns-in_err-asks-clause-opens : goal.returns-in_err-asks-clause-opens
returns-in_err-asks-clause-opens g c =
    let inputs = c.args.plan.now.asks ++ c.args.plan.now.finals in
    scripts_residual (of_place g.P.Place) c.args.place.now c.open_all.new.place inputs inputs [] (output_names c.args.plan.now) c.from_residual.result c.in_err-asks.field-0.0 (sym (append-nil inputs)) c.from_residual.ensures.1 c.in_err-asks.ensures.opens

pub returns-in-Ok-clause-opens : goal.returns-in-Ok-clause-opens
returns-in-Ok-clause-opens g c =
    scripts_and_creates (of_place g.P.Place) c.args.place.now c.open_all.new.place c.create_all.new.place (c.args.plan.now.asks ++ c.args.plan.now.finals) [] (output_names c.args.plan.now) None (none_not_some _) c.in_ok-asks.ensures.opens c.in-Ok.ensures.opens

pub returns-in-Err-clause-opens : goal.returns-in-Err-clause-opens
returns-in-Err-clause-opens g c =
    let p = (of_place g.P.Place) in
    let F = λ (script : LineCutter g.row.P-In.Denot). g.P.In.Source.faults script.source in
    let inputs = c.args.plan.now.asks ++ c.args.plan.now.finals in
    scripts_given_back p c.args.place.now c.give_back_cutters.new.place c.give_back_cutters-in-Err.new.place inputs (output_names c.args.plan.now) (Some c.in-Err.stop) (map F c.into_vec-in-Err.result.items)
    (scripts_given_back p c.args.place.now c.create_all.new.place c.give_back_cutters.new.place inputs (output_names c.args.plan.now) (Some c.in-Err.stop) (map F c.into_vec.result.items)
    (scripts_and_creates p c.args.place.now c.open_all.new.place c.create_all.new.place inputs [] (output_names c.args.plan.now) (Some c.in-Err.stop) (λ e. c.in-Err.ensures.no_read (ap (λ k. Err k) (same_stop _ _ e))) c.in_ok-asks.ensures.opens c.in-Err.ensures.opens)
    c.give_back_cutters.ensures
    (All-map (λ n. n ≡ 0) F c.into_vec.result.items (subst (λ (items : List (LineCutter g.row.P-In.Denot)). All (λ script. F script ≡ 0) items) (sym c.into_vec.ensures) c.in_ok-asks.ensures.quiet.0)))
    c.give_back_cutters-in-Err.ensures
    (All-map (λ n. n ≡ 0) F c.into_vec-in-Err.result.items (subst (λ (items : List (LineCutter g.row.P-In.Denot)). All (λ script. F script ≡ 0) items) (sym c.into_vec-in-Err.ensures) c.in_ok-asks.ensures.quiet.1))
