use Rattle.feed_queue.proofs.LaneRule.{may_split}
use Rattle.feed_queue.proofs.open.add_feeder.Goals as goal

pub another-part-requires-clause-rule : goal.another-part-requires-clause-rule
another-part-requires-clause-rule c = may_split _ _ c.requires.draws.0
