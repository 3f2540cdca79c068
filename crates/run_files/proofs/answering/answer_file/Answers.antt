use Rattle.std.proofs.Common.{◌∙◌, Result, sym, subst}
use Rattle.std.proofs.lemmas.List.{append-nil}
use Rattle.run_files.specs.Outside.{at, of_place, of_sink}
use Rattle.run_files.specs.declared.stop.Stop.{Stop}
use Rattle.run_files.specs.Answering.{AnswersFile}
use Rattle.run_files.specs.Views.{of_view}
use Rattle.run_files.proofs.ScriptAnswers.{answered_file, unopened_file}
use Rattle.run_files.proofs.answering.answer_file.Goals as goal

pub returns-in-Ok-clause-file : goal.returns-in-Ok-clause-file
returns-in-Ok-clause-file g c =
    let p = of_place g.P.Place in
    let s = of_sink g.O.Sink in
    let weight = g.V.CubeView.weight_at c.args.view.now in
    let n = g.V.CubeView.seen c.args.view.now in
    subst (λ (result : Result (Unit {0}) Stop). AnswersFile p s (at c.args.place.now c.args.out.now) (at c.give_back_in.new.self c.answer_script-source.new.out) (of_view g.V.CubeView c.args.view.now) c.args.script.now result)
    (sym c.script_end.ensures)
    (answered_file p s c.args.place.now c.give_back_in.new.self c.args.out.now c.answer_script-source.new.out (g.V.CubeView.schema c.args.view.now) g.V.CubeView.is_stat weight n c.args.script.now
    (g.V.CubeView.numbers c.args.view.now) (g.met.V.CubeView.structure c.args.view.now) c.seen.result (g.P.In.Source.left c.in-Ok.source) c.seen.ensures c.in-Ok.ensures.left
    (c.give_back_in.ensures.opened ∙ c.in-Ok.ensures.opened.noted (λ e. cc))
    _ c.answer_script-source.ensures.all c.answer_script-source.ensures.too_much c.answer_script-source.ensures.part)

pub returns-in-Err-Failed-clause-file : goal.returns-in-Err-Failed-clause-file
returns-in-Err-Failed-clause-file g c =
    unopened_file _ _ _ _ _ _ _ _ _ _ (λ e. cc) (λ e. cc) (λ e. cc)
    (1, c.in-Err-Failed.ensures.opened.noted (λ e. cc))

pub returns-in-Err-NoMemory-clause-file : goal.returns-in-Err-NoMemory-clause-file
returns-in-Err-NoMemory-clause-file g c =
    unopened_file _ _ _ _ _ _ _ _ _ _ (λ e. cc) (λ e. cc) (λ e. cc)
    (0, c.in-Err-NoMemory.ensures.opened.unnoted (cc) ∙ sym (append-nil _))
