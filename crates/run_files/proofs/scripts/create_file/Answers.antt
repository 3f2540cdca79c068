use Rattle.std.proofs.Common.{Err, ap, refl, sym}
use Rattle.run_files.proofs.Apart.{failed_fault, lacked_fault, none_not_some, ok_not_err}
use Rattle.run_files.proofs.ScriptReads.{creates_not, creates_one, none_ends, write_ends, write_not_read}
use Rattle.run_files.specs.Outside.{of_place}
use Rattle.run_files.proofs.scripts.create_file.Goals as goal

pub returns-in-Ok-clause-opens : goal.returns-in-Ok-clause-opens
returns-in-Ok-clause-opens g c =
    creates_one (of_place g.P.Place) c.args.place.now c.create.new.self c.args.name.now _
    (c.in-Ok.ensures.created.noted (ok_not_err _ _)) c.in-Ok.ensures.reading.1 c.in-Ok.ensures.reading.0 c.in-Ok.ensures.others
    (λ _. c.in-Ok.ensures.emptied) (none_not_some _) (λ e. absurd (none_not_some _ e)) (λ e. c.in-Ok.ensures.cause.quiet (ok_not_err _ _)) none_ends

pub returns-in-Err-Failed-clause-opens : goal.returns-in-Err-Failed-clause-opens
returns-in-Err-Failed-clause-opens g c =
    creates_one (of_place g.P.Place) c.args.place.now c.create.new.self c.args.name.now _
    (c.in-Err-Failed.ensures.created.noted (failed_fault _ c.in-Err-Failed.field-0-is)) c.in-Err-Failed.ensures.reading.1 c.in-Err-Failed.ensures.reading.0 c.in-Err-Failed.ensures.others
    (λ quiet. absurd (quiet (λ e. none_not_some _ (sym e)) (c.in-Err-Failed.ensures.cause.rose (ap (λ f. Err f) c.in-Err-Failed.field-0-is)))) write_not_read (λ e. c.in-Err-Failed.ensures.cause.rose (ap (λ f. Err f) c.in-Err-Failed.field-0-is)) (λ e. absurd (e refl)) write_ends

pub returns-in-Err-NoMemory-clause-opens : goal.returns-in-Err-NoMemory-clause-opens
returns-in-Err-NoMemory-clause-opens g c =
    creates_not (of_place g.P.Place) c.args.place.now c.create.new.self c.args.name.now
    (c.in-Err-NoMemory.ensures.created.unnoted (ap (λ f. Err f) c.in-Err-NoMemory.field-0-is)) c.in-Err-NoMemory.ensures.reading.1 c.in-Err-NoMemory.ensures.reading.0
    (c.in-Err-NoMemory.ensures.no_memory (ap (λ f. Err f) c.in-Err-NoMemory.field-0-is)) (c.in-Err-NoMemory.ensures.cause.quiet (lacked_fault _ c.in-Err-NoMemory.field-0-is))
