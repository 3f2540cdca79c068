use Rattle.std.proofs.Common.{◌∙◌, Ok, Err, ap, refl, sym}
use Rattle.std.proofs.lemmas.Result.{err_from_is_err_and}
use Rattle.save_run.proofs.FeedReads.{at_end, begins, has_room, no_cause, same_cause, takes_row}
use Rattle.save_run.proofs.taking.take_feed.Goals as goal

pub loop-tally-init : goal.loop-tally-init
loop-tally-init g c = begins g.S.Source.left g.S.Source.faults c.args.feed.now c.args.grouped.now c.in-Ok.tally c.requires.unread.going c.requires.unread.given c.in-Ok.ensures

pub returns-in_err-row-clause-cause : goal.returns-in_err-row-clause-cause
returns-in_err-row-clause-cause g c =
    let p = err_from_is_err_and c.from_residual.result c.from_residual.ensures.1 in
    same_cause _ _ _ _ _ c.in_err-row.field-0.0 c.loop-tally.invariant.passed.quiet c.in_err-row.was (p.1 ∙ ap (λ f. Err f) p.2) c.next_row.ensures.cause

pub take_row-requires-clause-few : goal.take_row-requires-clause-few
take_row-requires-clause-few g c =
    let room = has_room g.S.Source.left g.S.Source.faults c.args.feed.now c.args.grouped.now c.loop-tally.feed c.loop-tally.grouped c.loop-tally.tally c.loop-tally.invariant in
    (room.0, room.1, room.2)

pub loop-tally-preserved : goal.loop-tally-preserved
loop-tally-preserved g c =
    takes_row g.S.Source.left g.S.Source.faults c.args.feed.now c.args.grouped.now c.loop-tally.feed c.loop-tally.grouped c.loop-tally.tally c.loop-tally.invariant
    (record { cutter = c.next_row.new.cutter; header = c.loop-tally.feed.header }) c.take_row.new.grouped c.take_row.new.tally (c.in-Some.row, c.in-Some.line) c.args.schema.now
    (sym c.requires.unread.header) (rw c.in-Some.is at c.in_ok-row.ensures.row) refl c.in-Ok-take_row.ensures.counted c.in-Ok-take_row.ensures.points c.in-Ok-take_row.ensures.schema c.in-Ok-take_row.ensures.size

pub returns-in_default-take_row-clause-cause : goal.returns-in_default-take_row-clause-cause
returns-in_default-take_row-clause-cause g c = no_cause _ _ _ _ _ c.loop-tally.invariant.passed.quiet (λ read. cc) (λ read. cc) c.in_ok-row.ensures.cause

pub returns-clause-taken : goal.returns-clause-taken
returns-clause-taken g c =
    at_end g.S.Source.left g.S.Source.faults c.args.feed.now c.args.grouped.now c.loop-tally.feed c.loop-tally.grouped c.loop-tally.tally c.loop-tally.invariant
    c.next_row.new.cutter c.into_counts.result (c.in_ok-row.ensures.end (ap (λ found. Ok found) c.in_default-2.is)) c.into_counts.ensures

pub returns-clause-cause : goal.returns-clause-cause
returns-clause-cause g c = no_cause _ _ _ _ _ c.loop-tally.invariant.passed.quiet (λ read. cc) (λ read. cc) c.in_ok-row.ensures.cause
