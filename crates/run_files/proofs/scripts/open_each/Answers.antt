use Rattle.std.proofs.Common.{◌≡◌, ◌≤◌, ◌+◌, ◌∙◌, ℕ, List, [], ◌∷◌, ◌++◌, length, take, drop, All, Some, None, sym, ap, subst}
use Rattle.std.specs.List.{AllZip}
use Rattle.std.proofs.lemmas.List.{take_all}
use Rattle.std.proofs.lemmas.List.Elements.{All-nil, All-push}
use Rattle.outer_io.specs.declared.cutter.LineCutter.{LineCutter}
use Rattle.run_files.proofs.Lists.{name_more, name_split}
use Rattle.run_files.proofs.ScriptReads.{scripts_none, scripts_residual, scripts_then, scripted_more, same_files}
use Rattle.run_files.specs.Outside.{file_of, of_place}
use Rattle.run_files.specs.Scripted.{IsScript, OpensScripts}
use Rattle.run_files.proofs.scripts.open_each.Goals as goal

pub loop-name-init : goal.loop-name-init
loop-name-init g c =
    let R = λ (name : List ℕ). IsScript g.P.In.Source.left g.P.In.Source.faults (file_of (g.P.Place.files c.args.place.now) name) in (
      scripts_none (of_place g.P.Place) c.args.place.now,
      subst (λ (items : List (LineCutter g.row.P-In.Denot)). AllZip R [] items) (sym c.requires.empty.0) tt,
      subst (λ (items : List (LineCutter g.row.P-In.Denot)). All (λ k. g.P.In.Source.faults k.source ≡ 0) items) (sym c.requires.empty.0) (All-nil _),
      c.requires.empty.1,
      c.requires.room,
    )

pub loop-name-preserved : goal.loop-name-preserved
loop-name-preserved g c =
    let p = (of_place g.P.Place) in
    let R = λ (name : List ℕ). IsScript g.P.In.Source.left g.P.In.Source.faults (file_of (g.P.Place.files c.args.place.now) name) in
    let Q = λ (script : LineCutter g.row.P-In.Denot). g.P.In.Source.faults script.source ≡ 0 in
    let first = take c.loop-name.name-index c.args.names.now in
    let name = c.as_str.result.now in
    let more : take (c.loop-name.name-index + 1) c.args.names.now ≡ first ++ name ∷ [] = name_more c.args.names.now c.loop-name.name-index c.name-item.result name c.loop-name-test.true c.name-item.is c.as_str.ensures in
    let so_far = c.loop-name.invariant in (
      subst (λ (names : List (List ℕ)). OpensScripts p c.args.place.now c.open_script.new.place names [] None) (sym more)
          (scripts_then p c.args.place.now c.loop-name.place c.open_script.new.place first (name ∷ []) [] None so_far.0 c.in_ok-script.ensures.opens),
      subst (λ (names : List (List ℕ)). AllZip R names c.push_reserved.new.self.items) (sym more)
          (subst (λ (items : List (LineCutter g.row.P-In.Denot)). AllZip R (first ++ name ∷ []) items) (sym c.push_reserved.ensures.items)
          (scripted_more g.P.In.Source.left g.P.In.Source.faults (g.P.Place.files c.args.place.now) (g.P.Place.files c.loop-name.place) first c.loop-name.scripts.items name c.in_ok-script.script
          (same_files p c.args.place.now c.loop-name.place first so_far.0) so_far.1 c.in_ok-script.ensures.script)),
      subst (λ (items : List (LineCutter g.row.P-In.Denot)). All Q items) (sym c.push_reserved.ensures.items) (All-push Q c.loop-name.scripts.items c.in_ok-script.script so_far.2 c.in_ok-script.ensures.script.fresh),
      c.push_reserved.ensures.len ∙ ap (λ n. n + 1) so_far.3,
      subst (λ n. length c.args.names.now ≤ n) (sym c.push_reserved.ensures.capacity) so_far.4,
    )

pub returns-in_err-script-clause-opens : goal.returns-in_err-script-clause-opens
returns-in_err-script-clause-opens g c =
    let p = (of_place g.P.Place) in
    let first = take c.loop-name.name-index c.args.names.now in
    let name = c.as_str.result.now in
    scripts_residual p c.args.place.now c.open_script.new.place c.args.names.now (first ++ name ∷ []) (drop (c.loop-name.name-index + 1) c.args.names.now) [] c.from_residual.result c.in_err-script.field-0.0
    (name_split c.args.names.now c.loop-name.name-index c.name-item.result name c.loop-name-test.true c.name-item.is c.as_str.ensures) c.from_residual.ensures.1
    (scripts_then p c.args.place.now c.loop-name.place c.open_script.new.place first (name ∷ []) [] (Some c.in_err-script.field-0.0) c.loop-name.invariant.0 c.in_err-script.ensures.opens)

pub returns-clause-opens : goal.returns-clause-opens
returns-clause-opens g c =
    subst (λ (names : List (List ℕ)). OpensScripts (of_place g.P.Place) c.args.place.now c.loop-name.place names [] None) (take_all c.loop-name.name-index c.args.names.now c.loop-name-test.false) c.loop-name.invariant.0
