use Rattle.std.proofs.Common.{◌∙◌, Err, Some, ap, refl, subst}
use Rattle.outer_io.specs.Faults.{Rose}
use Rattle.run_files.proofs.Apart.{ok_not_err, failed_fault, lacked_fault, none_not_some, read_not_refused, read_not_write, read_not_plan, same_stop}
use Rattle.run_files.proofs.HeadReads.{opens_one, opens_not, refuses_head}
use Rattle.run_files.proofs.SinkPuts.{silent_itself}
use Rattle.run_files.specs.Outside.{of_place, of_sink}
use Rattle.run_files.proofs.feeds.open_feed.Goals as goal

pub returns-in-Ok-read_head-clause-opens : goal.returns-in-Ok-read_head-clause-opens
returns-in-Ok-read_head-clause-opens g c =
    opens_one (of_place g.P.Place) (of_sink g.O.Sink) c.args.schema.now c.args.place.now c.open.new.self c.args.out.now c.args.out.now c.args.name.now _
    (c.in-Ok.ensures.opened.noted (ok_not_err _ _)) c.in-Ok.ensures.writing.1 c.in-Ok.ensures.writing.0 c.in-Ok.ensures.files
    (λ e. absurd (none_not_some _ e)) (λ e. c.in-Ok.ensures.cause.quiet (ok_not_err _ _)) (λ e. absurd (none_not_some _ e)) (λ e. absurd (none_not_some _ e)) (λ _ _. silent_itself _ _) (none_not_some _)

pub returns-in-Err-clause-opens : goal.returns-in-Err-clause-opens
returns-in-Err-clause-opens g c =
    let s = of_sink g.O.Sink in
    opens_one (of_place g.P.Place) s c.args.schema.now c.args.place.now c.give_back_in.new.self c.args.out.now c.end_of_head.new.out c.args.name.now _
    (c.give_back_in.ensures.opened ∙ c.in-Ok.ensures.opened.noted (ok_not_err _ _)) (c.give_back_in.ensures.writing.1 ∙ c.in-Ok.ensures.writing.1)
    (c.give_back_in.ensures.writing.0 ∙ c.in-Ok.ensures.writing.0) (c.give_back_in.ensures.files ∙ c.in-Ok.ensures.files)
    (λ e. subst (λ n. Rose n (g.P.Place.read_faults c.give_back_in.new.self)) (c.in-Ok.ensures.cause.quiet (ok_not_err _ _))
    (c.give_back_in.ensures.rose (subst (λ n. Rose n (g.P.In.Source.faults c.in-Err.source)) c.in-Ok.ensures.fresh (c.in-Err.ensures.read (c.end_of_head.ensures.read.0 (same_stop _ _ e))))))
    (λ e. c.give_back_in.ensures.quiet (c.in-Err.ensures.else_quiet (λ is. e (ap (λ x. Some x) (c.end_of_head.ensures.read.1 is))) ∙ c.in-Ok.ensures.fresh) ∙ c.in-Ok.ensures.cause.quiet (ok_not_err _ _))
    (λ e. refuses_head s c.args.schema.now (g.P.Place.files c.args.place.now) (g.P.In.Source.left c.in-Ok.source) c.args.name.now c.in-Err.fault _ c.in-Ok.ensures.left c.in-Err.ensures.of_line c.in-Err.ensures.refused (c.end_of_head.ensures.refused (same_stop _ _ e)))
    (λ e. refuses_head s c.args.schema.now (g.P.Place.files c.args.place.now) (g.P.In.Source.left c.in-Ok.source) c.args.name.now c.in-Err.fault _ c.in-Ok.ensures.left c.in-Err.ensures.of_line c.in-Err.ensures.refused (c.end_of_head.ensures.unsaid (same_stop _ _ e)))
    (λ e f. c.end_of_head.ensures.silent (λ is. e (ap (λ x. Some x) is)) (λ is. f (ap (λ x. Some x) is)))
    (λ e. c.end_of_head.ensures.ends (same_stop _ _ e))

pub returns-in-Err-Failed-clause-opens : goal.returns-in-Err-Failed-clause-opens
returns-in-Err-Failed-clause-opens g c =
    opens_one (of_place g.P.Place) (of_sink g.O.Sink) c.args.schema.now c.args.place.now c.open.new.self c.args.out.now c.args.out.now c.args.name.now _
    (c.in-Err-Failed.ensures.opened.noted (failed_fault _ c.in-Err-Failed.field-0-is)) c.in-Err-Failed.ensures.writing.1 c.in-Err-Failed.ensures.writing.0 c.in-Err-Failed.ensures.files
    (λ e. c.in-Err-Failed.ensures.cause.rose (ap (λ f. Err f) c.in-Err-Failed.field-0-is)) (λ e. absurd (e refl)) (λ e. absurd (read_not_refused e)) (λ e. absurd (read_not_write e)) (λ _ _. silent_itself _ _) read_not_plan

pub returns-in-Err-NoMemory-clause-opens : goal.returns-in-Err-NoMemory-clause-opens
returns-in-Err-NoMemory-clause-opens g c =
    opens_not (of_place g.P.Place) (of_sink g.O.Sink) c.args.schema.now c.args.place.now c.open.new.self c.args.out.now c.args.name.now
    (c.in-Err-NoMemory.ensures.opened.unnoted (ap (λ f. Err f) c.in-Err-NoMemory.field-0-is)) c.in-Err-NoMemory.ensures.writing.1 c.in-Err-NoMemory.ensures.writing.0 c.in-Err-NoMemory.ensures.files (c.in-Err-NoMemory.ensures.cause.quiet (lacked_fault _ c.in-Err-NoMemory.field-0-is))
