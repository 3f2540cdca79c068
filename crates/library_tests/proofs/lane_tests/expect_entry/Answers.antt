use Rattle.feed_queue.proofs.EndCounts.{count_ends-entry}
use Rattle.library_tests.proofs.lane_tests.expect_entry.Goals as goal

pub returns-clause-ends : goal.returns-clause-ends
returns-clause-ends g c = count_ends-entry _ _ _ _ c.in-Some-One.ensures.drawn c.in-Some-One.field-0-is
