use Rattle.std.proofs.Common.{◌≡◌, take}
use Rattle.feed_queue.specs.Journal.{journal_text}
use Rattle.plan_run.proofs.JournalPuts.{Has}
use Rattle.plan_run.proofs.journal.write_journal.Given as goal

abbrev pub invariant-loop-entry : goal.invariant-loop-entry
invariant-loop-entry g l = record {
  has : Has g.O.Sink.held g.O.Sink.faults g.O.Sink.name l.initial.out l.out l.buffer.items (journal_text l.schema (take l.entry-index l.entries));
  faults : g.O.Sink.faults l.out ≡ g.O.Sink.faults l.initial.out;
  name : g.O.Sink.name l.out ≡ g.O.Sink.name l.initial.out;
}
