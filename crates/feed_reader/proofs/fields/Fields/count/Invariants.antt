use Rattle.std.proofs.Common.{◌≡◌, take}
use Rattle.std.specs.Prelude.{count_by}
use Rattle.cube_view.specs.Limits.{same_text}
use Rattle.feed_reader.proofs.fields.Fields.count.Given as goal

abbrev pub invariant-loop-place : goal.invariant-loop-place
invariant-loop-place l = l.count ≡ count_by (same_text l.name) (take l.place l.self)
