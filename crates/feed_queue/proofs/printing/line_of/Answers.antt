use Rattle.std.proofs.Common.{rules}
use Rattle.feed_queue.proofs.JournalLines.{line_written}
use Rattle.feed_queue.proofs.printing.line_of.Goals as goal

pub returns : goal.returns
returns c = line_written _ _ _ _ _ _ _ _ _ (search rules) c.in_ok-push_number.ensures c.in_ok-push_number-2.ensures c.in_ok-push_number-3.ensures (search rules) c.in_ok-push_number-4.ensures c.in_ok-push_weight.ensures
