use Rattle.std.proofs.Common.{ℕ, ◌+◌, ◌∙◌, List, take, drop, subst, arith}
use Rattle.std.proofs.lemmas.Result.{err_from_is_err_and}
use Rattle.feed_queue.specs.Journal.{journal_text}
use Rattle.plan_run.proofs.JournalPuts.{Has, at_last, has_entry, has_moved, journal_parts, journal_whole, no_memory, put_fault}
use Rattle.plan_run.proofs.journal.write_journal.Goals as goal

pub returns-in-Err : goal.returns-in-Err
returns-in-Err g c =
    let was = c.loop-entry.invariant in
    let i = c.loop-entry.entry-index in
    no_memory g.O.Sink.held g.O.Sink.faults g.O.Sink.name c.args.out.now c.loop-entry.out c.loop-entry.buffer.items (journal_text c.args.schema.now (take i c.args.entries.now)) (journal_text c.args.schema.now (drop i c.args.entries.now)) (journal_text c.args.schema.now c.args.entries.now) (journal_parts c.args.schema.now c.args.entries.now i) was.has was.faults was.name

pub returns-in_err-put_from : goal.returns-in_err-put_from
returns-in_err-put_from g c =
    let p = err_from_is_err_and c.from_residual.result c.from_residual.ensures.1 in
    let was = c.loop-entry.invariant in
    let i = c.loop-entry.entry-index in
    let put = c.in_err-put_from.ensures in
    let has = has_entry g.O.Sink.held g.O.Sink.faults g.O.Sink.name c.args.out.now c.loop-entry.out c.loop-entry.buffer.items c.push_line.new.buffer.items c.args.schema.now c.args.entries.now i _ c.loop-entry-test.true c.in_default-push_line.ensures was.has in
    rw (p.1, p.2) (put_fault g.O.Sink.held g.O.Sink.faults g.O.Sink.name c.args.out.now c.loop-entry.out c.put_from.new.out c.push_line.new.buffer.items (journal_text c.args.schema.now (take (i + 1) c.args.entries.now)) (journal_text c.args.schema.now (drop (i + 1) c.args.entries.now)) (journal_text c.args.schema.now c.args.entries.now) c.in_err-put_from.field-0.0 (journal_parts c.args.schema.now c.args.entries.now (i + 1)) has was.faults was.name put.part put.cause put.name)

pub loop-entry-preserved : goal.loop-entry-preserved
loop-entry-preserved g c =
    let was = c.loop-entry.invariant in
    let i = c.loop-entry.entry-index in
    let put = c.in_ok-put_from.ensures in
    let has = has_entry g.O.Sink.held g.O.Sink.faults g.O.Sink.name c.args.out.now c.loop-entry.out c.loop-entry.buffer.items c.push_line.new.buffer.items c.args.schema.now c.args.entries.now i _ c.loop-entry-test.true c.in_default-push_line.ensures was.has in record {
      has = has_moved g.O.Sink.held g.O.Sink.faults g.O.Sink.name c.args.out.now c.loop-entry.out c.put_from.new.out c.push_line.new.buffer.items (journal_text c.args.schema.now (take (i + 1) c.args.entries.now)) has c.put_from.new.buffer.items put.moves;
      faults = put.cause.quiet (λ e. cc) ∙ was.faults;
      name = put.name ∙ was.name;
    }

pub returns : goal.returns
returns g c =
    let was = c.loop-entry.invariant in
    let put = c.put_from-2.ensures in
    let whole = journal_whole c.args.schema.now c.args.entries.now c.loop-entry.entry-index (omega (arith, c.loop-entry-test.false)) in
    let has = subst (λ (t : List ℕ). Has g.O.Sink.held g.O.Sink.faults g.O.Sink.name c.args.out.now c.loop-entry.out c.loop-entry.buffer.items t) whole was.has in
    at_last g.O.Sink.held g.O.Sink.faults g.O.Sink.name c.args.out.now c.loop-entry.out c.put_from-2.new.out c.loop-entry.buffer.items c.put_from-2.new.buffer.items (journal_text c.args.schema.now c.args.entries.now) c.put_from-2.result has was.faults was.name put.moves put.few put.part put.cause put.name
