use Rattle.std.proofs.Common.{◌∙◌, Err, ap, refl}
use Rattle.run_files.proofs.Apart.{failed_fault, lacked_fault, lacked_not_read, none_not_some, ok_not_err, read_not_write}
use Rattle.run_files.proofs.ScriptReads.{lacked_ends, lacked_not_write, none_ends, read_ends, script_not, script_one}
use Rattle.run_files.specs.Outside.{of_place}
use Rattle.run_files.proofs.scripts.open_script.Goals as goal

pub returns-in-Ok-new-clause-opens : goal.returns-in-Ok-new-clause-opens
returns-in-Ok-new-clause-opens g c =
    script_one (of_place g.P.Place) c.args.place.now c.open.new.self c.args.name.now _ (none_not_some _) none_ends
    (c.in-Ok.ensures.opened.noted (ok_not_err _ _)) c.in-Ok.ensures.writing.1 c.in-Ok.ensures.writing.0 c.in-Ok.ensures.files (λ e. absurd (none_not_some _ e)) (λ e. c.in-Ok.ensures.cause.quiet (ok_not_err _ _))

pub returns-in-Err-clause-opens : goal.returns-in-Err-clause-opens
returns-in-Err-clause-opens g c =
    script_one (of_place g.P.Place) c.args.place.now c.give_back_in.new.self c.args.name.now _ lacked_not_write lacked_ends
    (c.give_back_in.ensures.opened ∙ c.in-Ok.ensures.opened.noted (ok_not_err _ _)) (c.give_back_in.ensures.writing.1 ∙ c.in-Ok.ensures.writing.1)
    (c.give_back_in.ensures.writing.0 ∙ c.in-Ok.ensures.writing.0) (c.give_back_in.ensures.files ∙ c.in-Ok.ensures.files)
    (λ e. absurd (lacked_not_read e)) (λ e. c.give_back_in.ensures.quiet (ap g.P.In.Source.faults c.in-Err.ensures.back ∙ c.in-Ok.ensures.fresh) ∙ c.in-Ok.ensures.cause.quiet (ok_not_err _ _))

pub returns-in-Err-NoMemory-clause-opens : goal.returns-in-Err-NoMemory-clause-opens
returns-in-Err-NoMemory-clause-opens g c =
    script_not (of_place g.P.Place) c.args.place.now c.open.new.self c.args.name.now
    (c.in-Err-NoMemory.ensures.opened.unnoted (ap (λ f. Err f) c.in-Err-NoMemory.field-0-is)) c.in-Err-NoMemory.ensures.writing.1 c.in-Err-NoMemory.ensures.writing.0 c.in-Err-NoMemory.ensures.files (c.in-Err-NoMemory.ensures.cause.quiet (lacked_fault _ c.in-Err-NoMemory.field-0-is))

pub returns-in-Err-Failed-clause-opens : goal.returns-in-Err-Failed-clause-opens
returns-in-Err-Failed-clause-opens g c =
    script_one (of_place g.P.Place) c.args.place.now c.open.new.self c.args.name.now _ read_not_write read_ends
    (c.in-Err-Failed.ensures.opened.noted (failed_fault _ c.in-Err-Failed.field-0-is)) c.in-Err-Failed.ensures.writing.1 c.in-Err-Failed.ensures.writing.0 c.in-Err-Failed.ensures.files (λ e. c.in-Err-Failed.ensures.cause.rose (ap (λ f. Err f) c.in-Err-Failed.field-0-is)) (λ other. absurd (other refl))
