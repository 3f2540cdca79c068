use Rattle.std.proofs.Common.{[], ◌∷◌, Option, ap, sym, subst, ◌∙◌}
use Rattle.std.specs.Result.{result_err}
use Rattle.run_files.proofs.Apart.{residual_is}
use Rattle.run_files.proofs.SourceReturns.{takes_more, takes_none}
use Rattle.run_files.specs.Outside.{of_place}
use Rattle.run_files.specs.Scripted.{OpensScripts}
use Rattle.run_files.specs.declared.stop.Stop.{Stop}
use Rattle.live_sums.proofs.Opened.{opens_lacking}
use Rattle.live_sums.proofs.opening.open_questions.Goals as goal

pub returns-in_err-source-clause-opens : goal.returns-in_err-source-clause-opens
returns-in_err-source-clause-opens g c =
    let f = c.in_err-source.field-0.0 in
    subst (λ (k : Option Stop). OpensScripts (of_place g.P.Place) c.args.place.now c.open_source.new.place (c.args.name.now ∷ []) [] k) (sym (ap result_err (residual_is c.from_residual.result f c.from_residual.ensures.1))) c.in_err-source.ensures.opens

pub returns-in-Err-clause-opens : goal.returns-in-Err-clause-opens
returns-in-Err-clause-opens g c =
    let p = of_place g.P.Place in
    let F = g.P.In.Source.faults in
    opens_lacking p c.args.place.now c.open_source.new.place c.give_back_in.new.self c.args.name.now (F c.in-Err.unused) c.in_ok-source.ensures.opens
    (takes_more p c.open_source.new.place c.open_source.new.place c.give_back_in.new.self [] (F c.in-Err.unused) (takes_none p c.open_source.new.place) c.give_back_in.ensures.rose c.give_back_in.ensures.quiet c.give_back_in.ensures.files c.give_back_in.ensures.opened c.give_back_in.ensures.writing)
    (ap F c.in-Err.ensures.back ∙ c.in_ok-source.ensures.fresh)
