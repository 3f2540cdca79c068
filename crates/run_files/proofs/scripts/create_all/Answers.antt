use Rattle.std.proofs.Common.{◌++◌, ◌∷◌, ◌∙◌, [], ℕ, List, Err, Some, None, ap, map, refl, sym, subst}
use Rattle.std.specs.List.{AllZip}
use Rattle.cube_schema.specs.Files.{output_names}
use Rattle.cube_schema.specs.Repeats.{outputs}
use Rattle.run_files.proofs.Apart.{none_not_some, same_stop}
use Rattle.run_files.proofs.ScriptReads.{creates_residual, scripts_and_creates}
use Rattle.run_files.proofs.ScriptStages.{created_both, ended_not_read, outputs_hold_nothing}
use Rattle.run_files.proofs.SinkReturns.{creates_given_back}
use Rattle.run_files.specs.Outside.{of_place, of_sink}
use Rattle.run_files.specs.Scripted.{IsOutput, OpensScripts}
use Rattle.run_files.proofs.scripts.create_all.Goals as goal

pub returns-in_err-asks-clause-opens : goal.returns-in_err-asks-clause-opens
returns-in_err-asks-clause-opens g c =
    creates_residual (of_place g.P.Place) c.args.place.now c.create_replies.new.place (output_names c.args.plan.now) (outputs c.args.plan.now.asks ++ outputs c.args.plan.now.finals) (c.args.plan.now.journal ∷ []) c.from_residual.result c.in_err-asks.field-0.0 refl c.from_residual.ensures.1 c.in_err-asks.ensures.opens

pub returns-in-Ok-clause-opens : goal.returns-in-Ok-clause-opens
returns-in-Ok-clause-opens g c =
    let p = (of_place g.P.Place) in
    scripts_and_creates p c.args.place.now c.create_replies.new.place c.create_file.new.place [] (outputs c.args.plan.now.asks ++ outputs c.args.plan.now.finals) (c.args.plan.now.journal ∷ []) None (none_not_some _) c.in_ok-asks.ensures.opens
    (subst (λ (n : List ℕ). OpensScripts p c.create_replies.new.place c.create_file.new.place [] (n ∷ []) None) c.as_str.ensures c.in-Ok.ensures.opens)

pub returns-in-Err-clause-opens : goal.returns-in-Err-clause-opens
returns-in-Err-clause-opens g c =
    let p = (of_place g.P.Place) in
    let s = (of_sink g.P.Out.Sink) in
    let files = g.P.Place.files c.args.place.now in
    let xs = c.into_vec.result.items in
    let ys = c.into_vec-in-Err.result.items in
    let journal = subst (λ (n : List ℕ). OpensScripts p c.create_replies.new.place c.create_file.new.place [] (n ∷ []) (Some c.in-Err.stop)) c.as_str.ensures c.in-Err.ensures.opens in
    let asks = subst (λ (items : List g.row.P-Out.Denot). AllZip (IsOutput s files) (outputs c.args.plan.now.asks) items) (sym c.into_vec.ensures) c.in_ok-asks.ensures.asks in
    let finals = subst (λ (items : List g.row.P-Out.Denot). AllZip (IsOutput s files) (outputs c.args.plan.now.finals) items) (sym c.into_vec-in-Err.ensures) c.in_ok-asks.ensures.finals in
    let both = created_both p s files files c.args.place.now c.create_replies.new.place c.create_file.new.place (outputs c.args.plan.now.asks) (outputs c.args.plan.now.finals) (c.args.plan.now.journal ∷ []) xs ys (Some c.in-Err.stop) c.in_ok-asks.ensures.opens journal asks finals in
    let first = creates_given_back p s c.args.place.now c.create_file.new.place c.give_back_sinks-given.new.place (output_names c.args.plan.now) [] (map s.name ys ++ both.0) xs c.in-Err.stop c.ended_after-end.result c.give_back_sinks-given.result
    (scripts_and_creates p c.args.place.now c.create_replies.new.place c.create_file.new.place [] (outputs c.args.plan.now.asks ++ outputs c.args.plan.now.finals) (c.args.plan.now.journal ∷ []) (Some c.in-Err.stop) (λ e. c.in-Err.ensures.no_read (ap (λ k. Err k) (same_stop _ _ e))) c.in_ok-asks.ensures.opens journal)
    c.give_back_sinks-given.ensures both.1 (outputs_hold_nothing s files (outputs c.args.plan.now.asks) xs asks) (λ e. c.in-Err.ensures.no_read (ap (λ k. Err k) e)) c.ended_after-end.ensures in
    creates_given_back p s c.args.place.now c.give_back_sinks-given.new.place c.give_back_sinks-given-in-Err.new.place (output_names c.args.plan.now) (map s.name xs) both.0 ys c.ended_after-end.result c.ended_after.result c.give_back_sinks-given-in-Err.result first
    c.give_back_sinks-given-in-Err.ensures (c.give_back_sinks-given.ensures.created ∙ both.1) (outputs_hold_nothing s files (outputs c.args.plan.now.finals) ys finals)
    (ended_not_read c.in-Err.stop c.ended_after-end.result c.give_back_sinks-given.result (λ e. c.in-Err.ensures.no_read (ap (λ k. Err k) e)) c.give_back_sinks-given.ensures.only.1 c.ended_after-end.ensures) c.ended_after.ensures

pub returns-in-Err-clause-no_read : goal.returns-in-Err-clause-no_read
returns-in-Err-clause-no_read g c = λ e.
    ended_not_read c.ended_after-end.result c.ended_after.result c.give_back_sinks-given-in-Err.result
    (ended_not_read c.in-Err.stop c.ended_after-end.result c.give_back_sinks-given.result (λ e. c.in-Err.ensures.no_read (ap (λ k. Err k) e)) c.give_back_sinks-given.ensures.only.1 c.ended_after-end.ensures)
    c.give_back_sinks-given-in-Err.ensures.only.1 c.ended_after.ensures (cc e)
