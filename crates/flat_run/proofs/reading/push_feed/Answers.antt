use Rattle.std.proofs.Common.{◌∙◌, Ok, Err, ap, refl, sym}
use Rattle.std.proofs.lemmas.Result.{err_from_is_err_and}
use Rattle.save_run.proofs.FeedReads.{no_cause, same_cause}
use Rattle.flat_run.proofs.FeedReads.{at_end, begins, takes_row}
use Rattle.flat_run.proofs.reading.push_feed.Goals as goal

pub loop-row-init : goal.loop-row-init
loop-row-init g c = begins g.S.Source.left g.S.Source.faults c.args.schema.now c.args.feed.now c.args.points.now.items c.requires.unread.going c.requires.unread.given c.requires.sound

pub returns-in_err-row-clause-cause : goal.returns-in_err-row-clause-cause
returns-in_err-row-clause-cause g c =
    let p = err_from_is_err_and c.from_residual.result c.from_residual.ensures.1 in
    same_cause _ _ _ _ _ c.in_err-row.field-0.0 c.loop-row.invariant.passed.quiet c.in_err-row.was (p.1 ∙ ap (λ f. Err f) p.2) c.next_row.ensures.cause

pub loop-row-preserved : goal.loop-row-preserved
loop-row-preserved g c =
    takes_row g.S.Source.left g.S.Source.faults c.args.schema.now c.args.feed.now c.args.points.now.items c.loop-row.feed c.loop-row.points.items c.loop-row.invariant
    (record { cutter = c.next_row.new.cutter; header = c.loop-row.feed.header }) c.push_row.new.points.items (c.in-Some.row, c.in-Some.field-0-1)
    (sym c.requires.unread.header) (rw c.in-Some.is at c.in_ok-row.ensures.row) (rw c.in-Some.is at c.in_ok-row.ensures.valid) refl c.in-Ok.ensures

pub returns-in_default-push_row-clause-cause : goal.returns-in_default-push_row-clause-cause
returns-in_default-push_row-clause-cause g c = no_cause _ _ _ _ _ c.loop-row.invariant.passed.quiet (λ read. cc) (λ read. cc) c.in_ok-row.ensures.cause

pub returns-clause-pushed : goal.returns-clause-pushed
returns-clause-pushed g c =
    at_end g.S.Source.left g.S.Source.faults c.args.schema.now c.args.feed.now c.args.points.now.items c.loop-row.feed c.loop-row.points.items c.loop-row.invariant
    c.next_row.new.cutter (c.in_ok-row.ensures.end (ap (λ found. Ok found) c.in_default.is))

pub returns-clause-cause : goal.returns-clause-cause
returns-clause-cause g c = no_cause _ _ _ _ _ c.loop-row.invariant.passed.quiet (λ read. cc) (λ read. cc) c.in_ok-row.ensures.cause
