use Rattle.std.proofs.Common.{List, length, map, subst, Err}
use Rattle.crew_feeder.specs.declared.done.FeedDone.{FeedDone}
use Rattle.feed_queue.specs.Journal.{journal_text}
use Rattle.run_files.specs.Stops.{write_end}
use Rattle.run_files.specs.declared.stop.Stop.TheVariants.{NoMemory}
use Rattle.world_core.specs.declared.entry.Entry.{Entry}
use Rattle.plan_run.specs.Journals.{PutsJournal}
use Rattle.plan_run.proofs.StepEnds.{ends_of_all, joined_both, text_of_counts}
use Rattle.plan_run.specs.Closing.{run_text, threads_end}
use Rattle.plan_run.specs.Counted.{script_counts}
use Rattle.plan_run.proofs.closing.close_run.Goals as goal

pub returns : goal.returns
returns g c =
    let wrote = c.write_journal-wrote.result in
    let kept = c.give_back_journal-kept.result in
    record {
      sink = c.write_journal-wrote.new.out;
      wrote = wrote;
      written = subst (λ (entries : List Entry). PutsJournal g.P.Out.Sink.held g.P.Out.Sink.faults g.P.Out.Sink.name c.args.journal c.write_journal-wrote.new.out (journal_text c.args.plan.now.schema entries) c.write_journal-wrote.result) c.as_slice.ensures c.write_journal-wrote.ensures;
      replied = c.give_back_parts-counts.new.place;
      given = c.give_back_parts-counts.result.1;
      parts = c.give_back_parts-counts.ensures.back;
      kept = kept;
      journal = c.give_back_journal-kept.ensures;
      said = c.say_run-said.result;
      report = c.say_run-said.ensures.said (run_text c.args.plan.now c.args.crewed)
          (text_of_counts c.args.plan.now c.give_back_parts-counts.result.0 (map (λ (f : FeedDone g.row.P-In.Denot). f.counts) c.args.crewed.feeds) (map (script_counts {I = g.row.P-In.Denot} {O = g.row.P-Out.Denot}) c.args.crewed.asks) (map (script_counts {I = g.row.P-In.Denot} {O = g.row.P-Out.Denot}) c.args.crewed.finals)
          c.args.crewed.closed c.len-count.result (length c.args.crewed.journal) c.len-count.ensures c.give_back_parts-counts.ensures.feeds c.give_back_parts-counts.ensures.asks c.give_back_parts-counts.ensures.finals);
      unsaid = λ e. c.say_run-said.ensures.unsaid (joined_both c.joined_ends.result c.write_end-wrote.result (write_end wrote) c.write_end-kept.result (write_end kept) (Err NoMemory) c.joined_ends.ensures c.write_end-wrote.ensures c.write_end-kept.ensures e);
      ends = ends_of_all c.threads_end-threads.result (threads_end c.args.crewed) c.write_end-wrote.result (write_end wrote) c.give_back_parts-counts.result.1 c.write_end-kept.result (write_end kept) c.say_run-said.result
          c.joined_ends-2.result c.joined_ends-parts.result c.joined_ends-3.result c.joined_ends-4.result
          c.threads_end-threads.ensures c.write_end-wrote.ensures c.write_end-kept.ensures c.joined_ends-2.ensures c.joined_ends-parts.ensures c.joined_ends-3.ensures c.joined_ends-4.ensures;
    }
