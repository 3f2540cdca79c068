use Rattle.std.proofs.Common.{refl, rules}
use Rattle.feed_queue.proofs.LaneRule.{may_open, may_begin, new_lane}
use Rattle.feed_queue.proofs.steps.open_line.Goals as goal

pub ruled-requires-clause-rule : goal.ruled-requires-clause-rule
ruled-requires-clause-rule c = new_lane

pub try_push_as-requires-clause-rule : goal.try_push_as-requires-clause-rule
try_push_as-requires-clause-rule c = may_open _ _ _ _ _ c.in_ok-line.ensures.3 refl

pub try_pop_as-requires-clause-rule : goal.try_pop_as-requires-clause-rule
try_pop_as-requires-clause-rule c = may_begin _ _ c.args.schema.now (search rules)
