use Rattle.std.proofs.Common.{[], ◌∷◌, Option, ap, sym, subst}
use Rattle.std.specs.Result.{result_err}
use Rattle.run_files.proofs.Apart.{residual_is}
use Rattle.run_files.specs.Outside.{of_place}
use Rattle.run_files.specs.Scripted.{OpensScripts}
use Rattle.run_files.specs.Scripted.{OpensScripts}
use Rattle.run_files.specs.declared.stop.Stop.{Stop}
use Rattle.live_sums.proofs.Opened.{none_read}
use Rattle.live_sums.proofs.opening.open_run.Goals as goal

pub returns-in_err-source-clause-opens : goal.returns-in_err-source-clause-opens
returns-in_err-source-clause-opens g c =
    let f = c.in_err-source.field-0.0 in
    subst (λ (k : Option Stop). OpensScripts (of_place g.P.Place) c.args.place.now c.open_source.new.place (c.args.run.now.replies.now ∷ []) [] k) (sym (ap result_err (residual_is c.from_residual.result f c.from_residual.ensures.1))) c.in_err-source.ensures.opens

pub returns-clause-unread : goal.returns-clause-unread
returns-clause-unread g c =
    none_read g.P.In.Source.left g.P.In.Source.faults (g.P.Place.files c.args.place.now) c.args.run.now.replies.now c.in_ok-source.source c.new.result c.in_ok-source.ensures.left c.in_ok-source.ensures.fresh c.new.ensures.source c.new.ensures.none.0 (c.new.ensures.none.1, c.new.ensures.none.2)
