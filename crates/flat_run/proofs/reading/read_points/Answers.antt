use Rattle.std.proofs.Common.{◌≡◌, ◌++◌, List, ap, arith, drop, length, map, subst, take, ◌∙◌}
use Rattle.std.proofs.Math.Seq.{take-append_seam}
use Rattle.feed_reader.specs.declared.job.FeedJob.{FeedJob}
use Rattle.run_files.specs.GivingBack.{TakesSources}
use Rattle.run_files.specs.Outside.{of_place}
use Rattle.flat_run.specs.Reading.{GivesPoints}
use Rattle.flat_run.proofs.reading.read_points.Goals as goal

pub returns : goal.returns
returns g c =
    let met = λ (job : FeedJob g.row.P-In.Denot). g.P.In.Source.faults job.cutter.source in
    let jobs = c.into_vec-feeds.result.items in
    let it = c.points_of_feeds-points in
    let same = it.auto.feeds ∙ ap (λ (l : List (FeedJob g.row.P-In.Denot)). length l) c.as_mut_slice.ensures.value in
    let many : c.into_vec-feeds.result.len ≡ length it.new.feeds = omega (arith, c.into_vec-feeds.result.ok.0, same) in
    record {
      given = it.result;
      read = it.new.feeds;
      gives = subst (λ (before : List (FeedJob g.row.P-In.Denot)). GivesPoints g.P.In.Source.left g.P.In.Source.faults c.args.schema.now before it.new.feeds it.result) (c.as_mut_slice.ensures.value ∙ c.into_vec-feeds.ensures) it.ensures;
      result_is = c.points_end.ensures;
      given_back = subst (λ (l : List (FeedJob g.row.P-In.Denot)). TakesSources (of_place g.P.Place) c.args.place.now c.give_back_feeds.new.place (map met l))
          (ap (λ n. take n (it.new.feeds ++ drop (length it.new.feeds) jobs)) many ∙ take-append_seam it.new.feeds (drop (length it.new.feeds) jobs)) c.give_back_feeds.ensures;
    }
