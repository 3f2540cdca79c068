use Rattle.std.proofs.Common.{◌≡◌, ◌++◌, List, ap, arith, drop, length, map, subst, take, ◌∙◌}
use Rattle.std.proofs.Math.Seq.{take-append_seam}
use Rattle.feed_reader.specs.declared.job.FeedJob.{FeedJob}
use Rattle.run_files.specs.GivingBack.{TakesSources}
use Rattle.run_files.specs.Outside.{of_place}
use Rattle.save_run.specs.Taking.{TakesFeeds}
use Rattle.save_run.proofs.reading.read_feeds.Goals as goal

pub returns : goal.returns
returns g c =
    let p = of_place g.P.Place in
    let F = λ (f : FeedJob g.row.P-In.Denot). g.P.In.Source.faults f.cutter.source in
    let items = c.into_vec-feeds.result.items in
    let read = c.cube_of_feeds-taken.new.feeds in
    let same = c.cube_of_feeds-taken.auto.feeds ∙ ap (λ (l : List (FeedJob g.row.P-In.Denot)). length l) c.as_mut_slice.ensures.value in
    let many : c.into_vec-feeds.result.len ≡ length read = omega (arith, c.into_vec-feeds.result.ok.0, same) in
    record {
      read = read;
      taken = c.cube_of_feeds-taken.result;
      takes = subst (λ (before : List (FeedJob g.row.P-In.Denot)). TakesFeeds g.P.In.Source.left g.P.In.Source.faults c.args.schema.now before read c.cube_of_feeds-taken.result) (c.as_mut_slice.ensures.value ∙ c.into_vec-feeds.ensures) c.cube_of_feeds-taken.ensures;
      back = subst (λ (l : List (FeedJob g.row.P-In.Denot)). TakesSources p c.args.place.now c.give_back_feeds.new.place (map F l))
          (ap (λ n. take n (read ++ drop (length read) items)) many ∙ take-append_seam read (drop (length read) items)) c.give_back_feeds.ensures;
      result_is = c.taken_end.ensures;
    }
