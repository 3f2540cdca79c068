use Rattle.std.proofs.Common.{◌∙◌, Result, sym, subst}
use Rattle.std.proofs.lemmas.List.{append-nil}
use Rattle.run_files.specs.Outside.{at, of_place, of_sink}
use Rattle.run_files.specs.declared.stop.Stop.{Stop}
use Rattle.flat_session.specs.Answers.{basis_of}
use Rattle.flat_run.specs.Answering.{AnswersNamed}
use Rattle.flat_run.proofs.ScriptAnswers.{answered_named, unopened_named}
use Rattle.flat_run.proofs.answering.answer_named.Goals as goal

pub returns-in-Ok-clause-script : goal.returns-in-Ok-clause-script
returns-in-Ok-clause-script g c =
    let p = of_place g.P.Place in
    let s = of_sink g.O.Sink in
    let of = basis_of c.args.view.now in
    let it = c.answer_flat-source in
    subst (λ (result : Result (Unit {0}) Stop). AnswersNamed p s (at c.args.place.now c.args.out.now) (at c.give_back_in.new.self it.new.out) of c.args.script.now result) (sym c.end_of_answers.ensures)
    (answered_named p s c.args.place.now c.give_back_in.new.self c.args.out.now it.new.out of c.args.script.now (g.P.In.Source.left c.in-Ok.source) c.in-Ok.ensures.left (c.give_back_in.ensures.opened ∙ c.in-Ok.ensures.opened.noted (λ e. cc)) _
    it.ensures.part it.ensures.all it.ensures.too_much)

pub returns-in-Err-Failed-clause-script : goal.returns-in-Err-Failed-clause-script
returns-in-Err-Failed-clause-script g c = unopened_named _ _ _ _ _ _ _ _ 1 (c.in-Err-Failed.ensures.opened.noted (λ e. cc)) (λ e. cc) (λ e. cc) (λ e. cc)

pub returns-in-Err-NoMemory-clause-script : goal.returns-in-Err-NoMemory-clause-script
returns-in-Err-NoMemory-clause-script g c = unopened_named _ _ _ _ _ _ _ _ 0 (c.in-Err-NoMemory.ensures.opened.unnoted (cc) ∙ sym (append-nil _)) (λ e. cc) (λ e. cc) (λ e. cc)
