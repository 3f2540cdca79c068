use Rattle.flat_run.proofs.FeedLists.{HasTaken}
use Rattle.flat_run.proofs.reading.points_of_feeds.Given as goal

abbrev pub invariant-loop-feed : goal.invariant-loop-feed
invariant-loop-feed g l = HasTaken g.S.Source.left g.S.Source.faults l.schema l.initial.feeds l.feed-index l.feeds l.points.items
