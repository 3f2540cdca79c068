use Rattle.std.proofs.Common.{◌++◌, ◌∙◌, [], ℕ, List, Err, Some, None, ap, refl, sym, subst}
use Rattle.std.specs.List.{AllZip}
use Rattle.cube_schema.specs.Repeats.{outputs}
use Rattle.run_files.proofs.Apart.{none_not_some, same_stop}
use Rattle.run_files.proofs.ScriptReads.{created_part, creates_residual, scripts_and_creates, still_told}
use Rattle.run_files.proofs.ScriptStages.{created_all, names_of, outputs_hold_nothing, outputs_later}
use Rattle.run_files.proofs.SinkReturns.{creates_given_back}
use Rattle.run_files.specs.Outside.{of_place, of_sink}
use Rattle.run_files.specs.Scripted.{IsOutput, OpensScripts}
use Rattle.run_files.proofs.scripts.create_replies.Goals as goal

pub returns-in_err-asks-clause-opens : goal.returns-in_err-asks-clause-opens
returns-in_err-asks-clause-opens g c =
    let p = (of_place g.P.Place) in
    creates_residual p c.args.place.now c.create_list.new.place (outputs c.args.plan.now.asks ++ outputs c.args.plan.now.finals) (outputs c.args.plan.now.asks) (outputs c.args.plan.now.finals) c.from_residual.result c.in_err-asks.field-0.0 refl c.from_residual.ensures.1
    (subst (λ (ns : List (List ℕ)). OpensScripts p c.args.place.now c.create_list.new.place [] (outputs ns) (Some c.in_err-asks.field-0.0)) c.as_slice.ensures c.in_err-asks.ensures.opens)

pub returns-in-Ok-clause-opens : goal.returns-in-Ok-clause-opens
returns-in-Ok-clause-opens g c =
    let p = (of_place g.P.Place) in
    scripts_and_creates p c.args.place.now c.create_list.new.place c.create_list-2.new.place [] (outputs c.args.plan.now.asks) (outputs c.args.plan.now.finals) None (none_not_some _)
    (subst (λ (ns : List (List ℕ)). OpensScripts p c.args.place.now c.create_list.new.place [] (outputs ns) None) c.as_slice.ensures c.in_ok-asks.ensures.opens)
    (subst (λ (ns : List (List ℕ)). OpensScripts p c.create_list.new.place c.create_list-2.new.place [] (outputs ns) None) c.as_slice-2.ensures c.in-Ok.ensures.opens)

pub returns-in-Ok-clause-finals : goal.returns-in-Ok-clause-finals
returns-in-Ok-clause-finals g c =
    let s = (of_sink g.P.Out.Sink) in
    outputs_later s (g.P.Place.files c.args.place.now) (g.P.Place.files c.create_list.new.place) (outputs c.args.plan.now.finals) c.in-Ok.finals
    (still_told (of_place g.P.Place) c.args.place.now c.create_list.new.place (outputs c.as_slice.result.now) c.in_ok-asks.ensures.opens)
    (subst (λ (ns : List (List ℕ)). AllZip (IsOutput s (g.P.Place.files c.create_list.new.place)) (outputs ns) c.in-Ok.finals) c.as_slice-2.ensures c.in-Ok.ensures.outputs)

pub returns-in-Err-clause-opens : goal.returns-in-Err-clause-opens
returns-in-Err-clause-opens g c =
    let p = (of_place g.P.Place) in
    let s = (of_sink g.P.Out.Sink) in
    let asks = subst (λ (ns : List (List ℕ)). OpensScripts p c.args.place.now c.create_list.new.place [] (outputs ns) None) c.as_slice.ensures c.in_ok-asks.ensures.opens in
    let finals = subst (λ (ns : List (List ℕ)). OpensScripts p c.create_list.new.place c.create_list-2.new.place [] (outputs ns) (Some c.in-Err.stop)) c.as_slice-2.ensures c.in-Err.ensures.opens in
    let zip = subst (λ (items : List g.row.P-Out.Denot). AllZip (IsOutput s (g.P.Place.files c.args.place.now)) (outputs c.args.plan.now.asks) items) (sym c.into_vec.ensures)
    (subst (λ (ns : List (List ℕ)). AllZip (IsOutput s (g.P.Place.files c.args.place.now)) (outputs ns) c.in_ok-asks.asks) c.as_slice.ensures c.in_ok-asks.ensures.outputs) in
    let made = created_part p s c.args.place.now c.create_list.new.place c.create_list-2.new.place c.into_vec.result.items (outputs c.args.plan.now.finals) (Some c.in-Err.stop)
    (created_all p c.args.place.now c.create_list.new.place (outputs c.args.plan.now.asks) asks ∙ ap (λ m. g.P.Place.created c.args.place.now ++ m) (sym (names_of s (g.P.Place.files c.args.place.now) (outputs c.args.plan.now.asks) c.into_vec.result.items zip))) finals in
    creates_given_back p s c.args.place.now c.create_list-2.new.place c.give_back_sinks-given.new.place (outputs c.args.plan.now.asks ++ outputs c.args.plan.now.finals) [] made.0 c.into_vec.result.items c.in-Err.stop c.ended_after.result c.give_back_sinks-given.result
    (scripts_and_creates p c.args.place.now c.create_list.new.place c.create_list-2.new.place [] (outputs c.args.plan.now.asks) (outputs c.args.plan.now.finals) (Some c.in-Err.stop) (λ e. c.in-Err.ensures.no_read (ap (λ k. Err k) (same_stop _ _ e))) asks finals)
    c.give_back_sinks-given.ensures made.1 (outputs_hold_nothing s (g.P.Place.files c.args.place.now) (outputs c.args.plan.now.asks) c.into_vec.result.items zip) (λ e. c.in-Err.ensures.no_read (ap (λ k. Err k) e)) c.ended_after.ensures
