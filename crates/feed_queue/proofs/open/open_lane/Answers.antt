use Rattle.std.proofs.Common.{rules}
use Rattle.feed_queue.proofs.OpenedLanes.{new_feeds_push}
use Rattle.feed_queue.proofs.open.open_lane.Goals as goal

pub loop-made-preserved : goal.loop-made-preserved
loop-made-preserved c = (
  search rules,
  search rules,
  new_feeds_push _ _ _ _ _ _ _ _ c.add_feeder.ensures.queue.0 c.loop-made.invariant.1 c.loop-made.invariant.2 c.in_ok-end.ensures.end (search rules),
)
