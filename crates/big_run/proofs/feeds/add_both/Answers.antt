use Rattle.std.proofs.Common.{◌≡◌, ℕ, List, [], ◌∷◌, ◌++◌, Result, Ok, Err, OnOk, ap, ◌∙◌}
use Rattle.feed_reader.specs.declared.job.FeedJob.{FeedJob}
use Rattle.big_run.specs.Parts.{AddsFeed, AreFeeds}
use Rattle.big_run.specs.declared.source.RunSource.{RunSource}
use Rattle.big_run.proofs.feeds.add_both.Goals as goal

-- two jobs that were added to none are the jobs of both feeds
both_added : {T E : Type 0} (count : ℕ) (before mid after : List (FeedJob RunSource)) (r : Result T E) → before ≡ [] → AddsFeed 1 count before mid → OnOk r (AddsFeed 2 count mid after) → OnOk r (AreFeeds count after)
both_added count before mid after (Err e) none first second = second
both_added count before mid after (Ok x) none first second = record {
  first = first.0;
  second = second.0;
  both = second.2 ∙ ap (λ jobs. jobs ++ second.0 ∷ []) (first.2 ∙ ap (λ jobs. jobs ++ first.0 ∷ []) none);
  first_is = first.1;
  second_is = second.1;
}

pub returns : goal.returns
returns c = both_added c.args.rows c.args.feeds.now.items c.add_feed.new.feeds.items c.add_feed-2.new.feeds.items c.add_feed-2.result c.requires.room.0 c.in_ok-add_feed.ensures.added c.add_feed-2.ensures.added
