use Rattle.std.proofs.Common.{List, map, subst}
use Rattle.feed_reader.specs.declared.job.FeedJob.{FeedJob}
use Rattle.live_session.specs.State.{SessionState}
use Rattle.run_files.specs.GivingBack.{TakesSinks, TakesSources}
use Rattle.run_files.specs.Outside.{of_place, of_sink}
use Rattle.plan_run.proofs.PartReturns.{sinks_of_both}
use Rattle.plan_run.proofs.unrun.give_back_unrun.Goals as goal

pub returns : goal.returns
returns g c =
    let p = of_place g.P.Place in
    let s = of_sink g.P.Out.Sink in
    let job = λ (j : FeedJob g.row.P-In.Denot). g.P.In.Source.faults j.cutter.source in
    let source = λ (k : SessionState g.row.P-In.Denot g.row.P-Out.Denot). g.P.In.Source.faults k.source.source in
    let sink = λ (k : SessionState g.row.P-In.Denot g.row.P-Out.Denot). k.sink in
    record {
      fed = c.give_back_feeds.new.place;
      asked = c.give_back_sessions-sinks.new.place;
      read = c.give_back_sessions-sinks-2.new.place;
      replied = c.give_back_sinks-given.new.place;
      given = c.give_back_sinks-given.result;
      kept = c.give_back_journal-kept.result;
      feeds_back = subst (λ (js : List (FeedJob g.row.P-In.Denot)). TakesSources p c.args.place.now c.give_back_feeds.new.place (map job js)) c.into_vec.ensures c.give_back_feeds.ensures;
      asks_back = subst (λ (ks : List (SessionState g.row.P-In.Denot g.row.P-Out.Denot)). TakesSources p c.give_back_feeds.new.place c.give_back_sessions-sinks.new.place (map source ks)) c.into_vec-2.ensures c.give_back_sessions-sinks.ensures.back;
      finals_back = subst (λ (ks : List (SessionState g.row.P-In.Denot g.row.P-Out.Denot)). TakesSources p c.give_back_sessions-sinks.new.place c.give_back_sessions-sinks-2.new.place (map source ks)) c.into_vec-3.ensures c.give_back_sessions-sinks-2.ensures.back;
      sinks_back = subst (λ (sinks : List g.row.P-Out.Denot). TakesSinks p s c.give_back_sessions-sinks-2.new.place c.give_back_sinks-given.new.place sinks c.give_back_sinks-given.result)
          (sinks_of_both sink c.args.parts.room.items c.give_back_sessions-sinks.result.items c.give_back_sessions-sinks-2.result.items c.into_vec-2.result.items c.into_vec-3.result.items c.args.parts.jobs.asks c.args.parts.jobs.finals c.requires.empty.0 c.into_vec-2.ensures c.into_vec-3.ensures c.give_back_sessions-sinks.ensures.sinks c.give_back_sessions-sinks-2.ensures.sinks)
          c.give_back_sinks-given.ensures;
      journal_back = c.give_back_journal-kept.ensures;
    }
