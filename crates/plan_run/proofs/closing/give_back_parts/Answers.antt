use Rattle.std.proofs.Common.{List, map, subst, Vec, Global}
use Rattle.crew_feeder.specs.declared.done.FeedDone.{FeedDone}
use Rattle.live_session.specs.declared.done.SessionDone.{SessionDone}
use Rattle.feed_reader.specs.declared.counts.FeedCounts.{FeedCounts}
use Rattle.run_files.specs.GivingBack.{TakesSinks, TakesSources}
use Rattle.run_files.specs.Outside.{of_place, of_sink}
use Rattle.run_files.specs.declared.counts.ScriptCounts.{ScriptCounts}
use Rattle.plan_run.proofs.PartReturns.{counted_of, sinks_of_both}
use Rattle.plan_run.specs.Counted.{script_counts}
use Rattle.plan_run.specs.declared.counts.RunCounts.{RunCounts}
use Rattle.plan_run.proofs.closing.give_back_parts.Goals as goal

pub returns-clause-back : goal.returns-clause-back
returns-clause-back g c =
    let p = (of_place g.P.Place) in
    let s = (of_sink g.P.Out.Sink) in
    let feed = λ (f : FeedDone g.row.P-In.Denot). g.P.In.Source.faults f.source in
    let source = λ (k : SessionDone g.row.P-In.Denot g.row.P-Out.Denot). g.P.In.Source.faults k.source in
    let sink = λ (k : SessionDone g.row.P-In.Denot g.row.P-Out.Denot). k.sink in
    record {
      fed = c.give_back_fed-feeds.new.place;
      asked = c.give_back_scripts-sinks.new.place;
      read = c.give_back_scripts-sinks-2.new.place;
      feeds_back = subst (λ (fs : List (FeedDone g.row.P-In.Denot)). TakesSources p c.args.place.now c.give_back_fed-feeds.new.place (map feed fs)) c.into_vec.ensures c.give_back_fed-feeds.ensures.back;
      asks_back = subst (λ (ks : List (SessionDone g.row.P-In.Denot g.row.P-Out.Denot)). TakesSources p c.give_back_fed-feeds.new.place c.give_back_scripts-sinks.new.place (map source ks)) c.into_vec-2.ensures c.give_back_scripts-sinks.ensures.back;
      finals_back = subst (λ (ks : List (SessionDone g.row.P-In.Denot g.row.P-Out.Denot)). TakesSources p c.give_back_scripts-sinks.new.place c.give_back_scripts-sinks-2.new.place (map source ks)) c.into_vec-3.ensures c.give_back_scripts-sinks-2.ensures.back;
      sinks_back = subst (λ (sinks : List g.row.P-Out.Denot). TakesSinks p s c.give_back_scripts-sinks-2.new.place c.give_back_sinks-given.new.place sinks c.give_back_sinks-given.result)
          (sinks_of_both sink c.args.room.items c.give_back_scripts-sinks.result.0.items c.give_back_scripts-sinks-2.result.0.items c.into_vec-2.result.items c.into_vec-3.result.items c.args.asks c.args.finals c.requires.empty.0 c.into_vec-2.ensures c.into_vec-3.ensures c.give_back_scripts-sinks.ensures.sinks c.give_back_scripts-sinks-2.ensures.sinks)
          c.give_back_sinks-given.ensures;
    }

pub returns-clause-feeds : goal.returns-clause-feeds
returns-clause-feeds g c =
    counted_of (λ (v : Vec FeedCounts Global). v.items) (λ (k : RunCounts). k.feeds) (λ (f : FeedDone g.row.P-In.Denot). f.counts) c.all_counts.result c.give_back_fed-feeds.result
    c.into_vec.result.items c.args.feeds c.into_vec.ensures c.all_counts.ensures.feeds c.give_back_fed-feeds.ensures.counts

pub returns-clause-asks : goal.returns-clause-asks
returns-clause-asks g c =
    counted_of (λ (v : Vec ScriptCounts Global). v.items) (λ (k : RunCounts). k.asks) (script_counts {I = g.row.P-In.Denot} {O = g.row.P-Out.Denot}) c.all_counts.result c.give_back_scripts-sinks.result.1
    c.into_vec-2.result.items c.args.asks c.into_vec-2.ensures c.all_counts.ensures.asks c.give_back_scripts-sinks.ensures.counts

pub returns-clause-finals : goal.returns-clause-finals
returns-clause-finals g c =
    counted_of (λ (v : Vec ScriptCounts Global). v.items) (λ (k : RunCounts). k.finals) (script_counts {I = g.row.P-In.Denot} {O = g.row.P-Out.Denot}) c.all_counts.result c.give_back_scripts-sinks-2.result.1
    c.into_vec-3.result.items c.args.finals c.into_vec-3.ensures c.all_counts.ensures.finals c.give_back_scripts-sinks-2.ensures.counts
