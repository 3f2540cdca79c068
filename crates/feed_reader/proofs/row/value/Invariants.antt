use Rattle.std.proofs.Common.{[]}
use Rattle.cube_view.specs.Limits.{same_text}
use Rattle.feed_reader.proofs.Lists.{FailsBelow}
use Rattle.feed_reader.proofs.row.value.Given as goal

abbrev pub invariant-loop-n : goal.invariant-loop-n
invariant-loop-n l = FailsBelow (same_text l.field) l.category.values [] l.n
