use Rattle.std.proofs.Common.{rules}
use Rattle.feed_queue.proofs.EndCounts.{ends_by_count}
use Rattle.library_tests.proofs.lane_tests.carry_one.Goals as goal

pub settle-requires-clause-ends : goal.settle-requires-clause-ends
settle-requires-clause-ends g c = ends_by_count _ c.send_and_draw-one.ensures.ends.0 (search rules)
