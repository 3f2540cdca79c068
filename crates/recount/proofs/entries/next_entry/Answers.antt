use Rattle.recount.proofs.EntryTexts.{begins_none, begins_with, no_entry}
use Rattle.feed_queue.proofs.ByteByByte.{if_none}
use Rattle.recount.proofs.entries.next_entry.Goals as goal

pub returns-in_err-first-clause-none : goal.returns-in_err-first-clause-none
returns-in_err-first-clause-none c = if_none c.from_residual.result _ (λ e b. begins_none c.args.schema.now e c.args.text.now c.in_err-first.ensures.none b)

pub returns-in_err-entry-clause-none : goal.returns-in_err-entry-clause-none
returns-in_err-entry-clause-none c =
    let first = c.in_ok-first.ensures.some in
    if_none c.from_residual-in_err-entry.result _
    (λ e b. no_entry e (c.in_err-entry.ensures.read e b.0 (begins_with c.args.schema.now e c.args.text.now _ _ first.0 first.2 b)))
