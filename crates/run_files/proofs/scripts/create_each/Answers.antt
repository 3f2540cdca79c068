use Rattle.std.proofs.Common.{◌≡◌, ◌≤◌, ◌+◌, ◌∙◌, ℕ, List, [], ◌∷◌, ◌++◌, length, take, drop, map, All, Err, Some, None, sym, ap, subst}
use Rattle.std.specs.List.{AllZip}
use Rattle.std.specs.Prelude.{codes}
use Rattle.std.proofs.lemmas.List.{append-nil, map-append, take_all}
use Rattle.std.proofs.lemmas.List.Elements.{All-nil, All-push}
use Rattle.cube_schema.specs.Repeats.{outputs}
use Rattle.run_files.proofs.Apart.{none_not_some, same_stop}
use Rattle.run_files.proofs.Lists.{AllZip-more, name_more, name_split}
use Rattle.run_files.proofs.ScriptReads.{creates_residual, created_more, created_part, output_later, scripts_and_creates, scripts_none, still_told}
use Rattle.run_files.proofs.ScriptStages.{outputs_hold_nothing}
use Rattle.run_files.specs.Outside.{of_place, of_sink}
use Rattle.run_files.specs.Scripted.{IsOutput, OpensScripts}
use Rattle.run_files.proofs.scripts.create_each.Goals as goal

pub loop-script-init : goal.loop-script-init
loop-script-init g c =
    let s = of_sink g.P.Out.Sink in (
      scripts_none (of_place g.P.Place) c.args.place.now,
      subst (λ (items : List g.row.P-Out.Denot). AllZip (IsOutput s (g.P.Place.files c.args.place.now)) [] items) (sym c.requires.empty.0) tt,
      subst (λ (items : List g.row.P-Out.Denot). All (λ k. g.P.Out.Sink.faults k ≡ 0) items) (sym c.requires.empty.0) (All-nil _),
      subst (λ (items : List g.row.P-Out.Denot). g.P.Place.created c.args.place.now ≡ g.P.Place.created c.args.place.now ++ map g.P.Out.Sink.name items) (sym c.requires.empty.0) (sym (append-nil _)),
      c.requires.empty.1,
      c.requires.room,
    )

pub loop-script-preserved : goal.loop-script-preserved
loop-script-preserved g c =
    let p = (of_place g.P.Place) in
    let s = of_sink g.P.Out.Sink in
    let Q = λ (sink : g.row.P-Out.Denot). g.P.Out.Sink.faults sink ≡ 0 in
    let first = take c.loop-script.script-index c.args.scripts.now in
    let script = c.as_str.result.now in
    let name = script ++ codes ".out" in
    let more : outputs (take (c.loop-script.script-index + 1) c.args.scripts.now) ≡ outputs first ++ name ∷ [] =
    ap outputs (name_more c.args.scripts.now c.loop-script.script-index c.script-item.result script c.loop-script-test.true c.script-item.is c.as_str.ensures) ∙ map-append (λ (n : List ℕ). n ++ codes ".out") first (script ∷ []) in
    let so_far = c.loop-script.invariant in
    let made = output_later s (g.P.Place.files c.args.place.now) (g.P.Place.files c.loop-script.place) name c.in_ok-sink.sink (still_told p c.args.place.now c.loop-script.place (outputs first) so_far.0) c.in_ok-sink.ensures.output in (
      subst (λ (names : List (List ℕ)). OpensScripts p c.args.place.now c.create_output.new.place [] names None) (sym more)
          (scripts_and_creates p c.args.place.now c.loop-script.place c.create_output.new.place [] (outputs first) (name ∷ []) None (none_not_some _) so_far.0 c.in_ok-sink.ensures.opens),
      subst (λ (names : List (List ℕ)). AllZip (IsOutput s (g.P.Place.files c.args.place.now)) names c.push_reserved.new.self.items) (sym more)
          (subst (λ (items : List g.row.P-Out.Denot). AllZip (IsOutput s (g.P.Place.files c.args.place.now)) (outputs first ++ name ∷ []) items) (sym c.push_reserved.ensures.items)
          (AllZip-more (IsOutput s (g.P.Place.files c.args.place.now)) (outputs first) c.loop-script.sinks.items name c.in_ok-sink.sink so_far.1 made)),
      subst (λ (items : List g.row.P-Out.Denot). All Q items) (sym c.push_reserved.ensures.items) (All-push Q c.loop-script.sinks.items c.in_ok-sink.sink so_far.2 made.fresh),
      subst (λ (items : List g.row.P-Out.Denot). g.P.Place.created c.create_output.new.place ≡ g.P.Place.created c.args.place.now ++ map g.P.Out.Sink.name items) (sym c.push_reserved.ensures.items)
          (created_more p s c.args.place.now c.loop-script.place c.create_output.new.place c.loop-script.sinks.items c.in_ok-sink.sink name so_far.3 made.name_is c.in_ok-sink.ensures.opens),
      c.push_reserved.ensures.len ∙ ap (λ n. n + 1) so_far.4,
      subst (λ n. length c.args.scripts.now ≤ n) (sym c.push_reserved.ensures.capacity) so_far.5,
    )

pub returns-in_err-sink-clause-opens : goal.returns-in_err-sink-clause-opens
returns-in_err-sink-clause-opens g c =
    let p = (of_place g.P.Place) in
    let first = take c.loop-script.script-index c.args.scripts.now in
    let script = c.as_str.result.now in
    let name = script ++ codes ".out" in
    creates_residual p c.args.place.now c.create_output.new.place (outputs c.args.scripts.now) (outputs first ++ name ∷ []) (outputs (drop (c.loop-script.script-index + 1) c.args.scripts.now)) c.from_residual.result c.in_err-sink.field-0.0
    (ap outputs (name_split c.args.scripts.now c.loop-script.script-index c.script-item.result script c.loop-script-test.true c.script-item.is c.as_str.ensures)
    ∙ (map-append (λ (n : List ℕ). n ++ codes ".out") (first ++ script ∷ []) (drop (c.loop-script.script-index + 1) c.args.scripts.now) ∙ ap (λ front. front ++ outputs (drop (c.loop-script.script-index + 1) c.args.scripts.now)) (map-append (λ (n : List ℕ). n ++ codes ".out") first (script ∷ []))))
    c.from_residual.ensures.1
    (scripts_and_creates p c.args.place.now c.loop-script.place c.create_output.new.place [] (outputs first) (name ∷ []) (Some c.in_err-sink.field-0.0) (λ e. c.in_err-sink.ensures.no_read (ap (λ k. Err k) (same_stop _ _ e))) c.loop-script.invariant.0 c.in_err-sink.ensures.opens)

pub returns-clause-opens : goal.returns-clause-opens
returns-clause-opens g c =
    subst (λ (scripts : List (List ℕ)). OpensScripts (of_place g.P.Place) c.args.place.now c.loop-script.place [] (outputs scripts) None) (take_all c.loop-script.script-index c.args.scripts.now c.loop-script-test.false) c.loop-script.invariant.0

pub returns-in_err-sink-clause-names : goal.returns-in_err-sink-clause-names
returns-in_err-sink-clause-names g c =
    created_part (of_place g.P.Place) (of_sink g.P.Out.Sink) c.args.place.now c.loop-script.place c.create_output.new.place c.loop-script.sinks.items _ _ c.loop-script.invariant.3 c.in_err-sink.ensures.opens

pub returns-clause-names : goal.returns-clause-names
returns-clause-names g c = ([], c.loop-script.invariant.3 ∙ ap (λ names. g.P.Place.created c.args.place.now ++ names) (sym (append-nil _)))

pub returns-in_err-sink-clause-hold_nothing : goal.returns-in_err-sink-clause-hold_nothing
returns-in_err-sink-clause-hold_nothing g c = outputs_hold_nothing (of_sink g.P.Out.Sink) (g.P.Place.files c.args.place.now) (outputs (take c.loop-script.script-index c.args.scripts.now)) c.loop-script.sinks.items c.loop-script.invariant.1

pub returns-clause-hold_nothing : goal.returns-clause-hold_nothing
returns-clause-hold_nothing g c = outputs_hold_nothing (of_sink g.P.Out.Sink) (g.P.Place.files c.args.place.now) (outputs (take c.loop-script.script-index c.args.scripts.now)) c.loop-script.sinks.items c.loop-script.invariant.1
