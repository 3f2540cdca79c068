use Rattle.std.proofs.Common.{[]}
use Rattle.cube_view.specs.Limits.{same_text}
use Rattle.feed_reader.proofs.Lists.{FailsBelow}
use Rattle.feed_reader.proofs.fields.Fields.place.Given as goal

abbrev pub invariant-loop-place : goal.invariant-loop-place
invariant-loop-place l = FailsBelow (same_text l.name) l.self [] l.place
