use Rattle.std.proofs.Common.{◌≡◌, ◌++◌, [], ℕ, List, Option, Some, None, map, refl, sym, subst, All}
use Rattle.std.specs.List.{AllZip}
use Rattle.std.proofs.lemmas.List.Elements.{All-map}
use Rattle.outer_io.specs.Files.{Files}
use Rattle.outer_io.specs.declared.cutter.LineCutter.{LineCutter}
use Rattle.run_files.proofs.ScriptReads.{same_files, scripts_given_back, scripts_residual, scripts_then}
use Rattle.run_files.specs.Outside.{file_of, of_place}
use Rattle.run_files.specs.Scripted.{IsScript, OpensScripts}
use Rattle.run_files.proofs.scripts.open_all.Goals as goal

pub returns-in_err-asks-clause-opens : goal.returns-in_err-asks-clause-opens
returns-in_err-asks-clause-opens g c =
    let p = (of_place g.P.Place) in
    scripts_residual p c.args.place.now c.open_list.new.place (c.args.plan.now.asks ++ c.args.plan.now.finals) c.args.plan.now.asks c.args.plan.now.finals [] c.from_residual.result c.in_err-asks.field-0.0 refl c.from_residual.ensures.1
    (subst (λ (ns : List (List ℕ)). OpensScripts p c.args.place.now c.open_list.new.place ns [] (Some c.in_err-asks.field-0.0)) c.as_slice.ensures c.in_err-asks.ensures.opens)

pub returns-in-Ok-clause-opens : goal.returns-in-Ok-clause-opens
returns-in-Ok-clause-opens g c =
    let p = (of_place g.P.Place) in
    scripts_then p c.args.place.now c.open_list.new.place c.open_list-2.new.place c.args.plan.now.asks c.args.plan.now.finals [] None
    (subst (λ (ns : List (List ℕ)). OpensScripts p c.args.place.now c.open_list.new.place ns [] None) c.as_slice.ensures c.in_ok-asks.ensures.opens)
    (subst (λ (ns : List (List ℕ)). OpensScripts p c.open_list.new.place c.open_list-2.new.place ns [] None) c.as_slice-2.ensures c.in-Ok.ensures.opens)

pub returns-in-Ok-clause-asks : goal.returns-in-Ok-clause-asks
returns-in-Ok-clause-asks g c =
    subst (λ (ns : List (List ℕ)). AllZip (λ name. IsScript g.P.In.Source.left g.P.In.Source.faults (file_of (g.P.Place.files c.args.place.now) name)) ns c.in_ok-asks.asks) c.as_slice.ensures c.in_ok-asks.ensures.scripts

pub returns-in-Ok-clause-finals : goal.returns-in-Ok-clause-finals
returns-in-Ok-clause-finals g c =
    subst (λ (fs : Option Files). AllZip (λ name. IsScript g.P.In.Source.left g.P.In.Source.faults (file_of fs name)) c.args.plan.now.finals c.in-Ok.finals)
    (same_files (of_place g.P.Place) c.args.place.now c.open_list.new.place c.as_slice.result.now c.in_ok-asks.ensures.opens)
    (subst (λ (ns : List (List ℕ)). AllZip (λ name. IsScript g.P.In.Source.left g.P.In.Source.faults (file_of (g.P.Place.files c.open_list.new.place) name)) ns c.in-Ok.finals) c.as_slice-2.ensures c.in-Ok.ensures.scripts)

pub returns-in-Err-clause-opens : goal.returns-in-Err-clause-opens
returns-in-Err-clause-opens g c =
    let p = (of_place g.P.Place) in
    let F = λ (script : LineCutter g.row.P-In.Denot). g.P.In.Source.faults script.source in
    scripts_given_back p c.args.place.now c.open_list-2.new.place c.give_back_cutters.new.place (c.args.plan.now.asks ++ c.args.plan.now.finals) [] (Some c.in-Err.stop) (map F c.into_vec.result.items)
    (scripts_then p c.args.place.now c.open_list.new.place c.open_list-2.new.place c.args.plan.now.asks c.args.plan.now.finals [] (Some c.in-Err.stop)
    (subst (λ (ns : List (List ℕ)). OpensScripts p c.args.place.now c.open_list.new.place ns [] None) c.as_slice.ensures c.in_ok-asks.ensures.opens)
    (subst (λ (ns : List (List ℕ)). OpensScripts p c.open_list.new.place c.open_list-2.new.place ns [] (Some c.in-Err.stop)) c.as_slice-2.ensures c.in-Err.ensures.opens))
    c.give_back_cutters.ensures
    (All-map (λ n. n ≡ 0) F c.into_vec.result.items (subst (λ (items : List (LineCutter g.row.P-In.Denot)). All (λ script. F script ≡ 0) items) (sym c.into_vec.ensures) c.in_ok-asks.ensures.quiet))
