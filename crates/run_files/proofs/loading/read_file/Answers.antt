use Rattle.std.proofs.Common.{◌∙◌, ◌∷◌, [], List, ℕ, Result, Err, ap, sym, subst}
use Rattle.outer_io.specs.Faults.{Rose}
use Rattle.run_files.proofs.Apart.{ok_not_err, lacked_fault, read_failed, failed_read}
use Rattle.run_files.specs.Leaving.{LeavesPlace}
use Rattle.run_files.specs.Stops.{read_end}
use Rattle.run_files.specs.declared.stop.Stop.{Stop}
use Rattle.std.specs.Result.{result_err}
use Rattle.run_files.proofs.Stages.{leaves_one, leaves_not}
use Rattle.run_files.specs.Outside.{of_place}
use Rattle.run_files.proofs.loading.read_file.Goals as goal

pub returns-in-Ok-clause-leaves : goal.returns-in-Ok-clause-leaves
returns-in-Ok-clause-leaves g c =
    let read = c.read_up_to-read.result in
    subst (λ (r : Result (List ℕ) Stop). LeavesPlace (of_place g.P.Place) c.args.place.now c.give_back_in.new.self (c.args.name.now ∷ []) [] (result_err r)) (sym c.read_end.ensures)
    (leaves_one (of_place g.P.Place) c.args.place.now c.give_back_in.new.self c.args.name.now (result_err (read_end read))
    (c.give_back_in.ensures.opened ∙ c.in-Ok.ensures.opened.noted (ok_not_err _ _)) (c.give_back_in.ensures.writing.1 ∙ c.in-Ok.ensures.writing.1)
    (c.give_back_in.ensures.writing.0 ∙ c.in-Ok.ensures.writing.0) (c.give_back_in.ensures.files ∙ c.in-Ok.ensures.files)
    (λ e. subst (λ n. Rose n (g.P.Place.read_faults c.give_back_in.new.self)) (c.in-Ok.ensures.cause.quiet (ok_not_err _ _))
    (c.give_back_in.ensures.rose (subst (λ n. Rose n (g.P.In.Source.faults c.read_up_to-read.new.source)) c.in-Ok.ensures.fresh (c.read_up_to-read.ensures.cause.rose (read_failed read e)))))
    (λ e. c.give_back_in.ensures.quiet (c.read_up_to-read.ensures.cause.quiet (λ is. e (failed_read read is)) ∙ c.in-Ok.ensures.fresh) ∙ c.in-Ok.ensures.cause.quiet (ok_not_err _ _)))

pub returns-in-Err-NoMemory-clause-leaves : goal.returns-in-Err-NoMemory-clause-leaves
returns-in-Err-NoMemory-clause-leaves g c =
    leaves_not (of_place g.P.Place) c.args.place.now c.open.new.self c.args.name.now
    (c.in-Err-NoMemory.ensures.opened.unnoted (ap (λ f. Err f) c.in-Err-NoMemory.field-0-is)) c.in-Err-NoMemory.ensures.writing.1 c.in-Err-NoMemory.ensures.writing.0 c.in-Err-NoMemory.ensures.files (c.in-Err-NoMemory.ensures.cause.quiet (lacked_fault _ c.in-Err-NoMemory.field-0-is))
