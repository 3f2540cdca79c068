use Rattle.feed_queue.proofs.EndCounts.{count_ends-end}
use Rattle.library_tests.proofs.lane_tests.expect_end.Goals as goal

pub returns-clause-ends : goal.returns-clause-ends
returns-clause-ends g c = count_ends-end _ _ _ _ _ c.in-Some-End.ensures.drawn c.in-Some-End.field-0-is
