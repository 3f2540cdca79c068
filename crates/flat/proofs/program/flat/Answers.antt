use Rattle.std.proofs.Common.{map, refl, subst, sym, ◌∙◌}
use Rattle.std.specs.Prelude.{string_bytes}
use Rattle.flat_run.specs.Ends.{FlatEnds}
use Rattle.flat_run.specs.Names.{ScriptNames}
use Rattle.run_files.specs.Outside.{at, of_place, of_sink}
use Rattle.flat.proofs.Forms.{has_form, names_are, no_form, none_named, not_usage}
use Rattle.flat.proofs.program.flat.Goals as goal

pub returns-in-Some-clause-ends : goal.returns-in-Some-clause-ends
returns-in-Some-clause-ends g c other form =
    let ends = λ (names : ScriptNames). FlatEnds (of_place g.P.Place) (of_sink g.O.Sink) (at c.args.place.now c.args.out.now) (at c.flat_files.new.place c.flat_files.new.out) names c.flat_files.result in
    (c.flat_files.result, subst ends (names_are (map string_bytes c.args.words.now) c.word_names.result c.word_names.ensures c.in-Some.names other c.in-Some.is form) c.flat_files.ensures, c.of_end.ensures)

pub returns-in-None-clause-ends : goal.returns-in-None-clause-ends
returns-in-None-clause-ends g c other form = absurd (none_named (map string_bytes c.args.words.now) c.word_names.result c.word_names.ensures other c.in-None.is form)

pub returns-in-Some-clause-usage : goal.returns-in-Some-clause-usage
returns-in-Some-clause-usage g c =
    (λ e. absurd (not_usage c.flat_files.result (sym c.of_end.ensures ∙ e)), λ none. absurd (has_form (map string_bytes c.args.words.now) c.word_names.result c.word_names.ensures c.in-Some.names c.in-Some.is none))

pub returns-in-None-clause-usage : goal.returns-in-None-clause-usage
returns-in-None-clause-usage g c = (λ e. no_form (map string_bytes c.args.words.now) c.word_names.result c.word_names.ensures c.in-None.is, λ none. refl)

pub returns-in-Some-clause-silent : goal.returns-in-Some-clause-silent
returns-in-Some-clause-silent g c e = absurd (not_usage c.flat_files.result (sym c.of_end.ensures ∙ e))
