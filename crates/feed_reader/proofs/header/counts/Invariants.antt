use Rattle.std.proofs.Common.{◌≡◌, map, take}
use Rattle.feed_reader.specs.Columns.{needed_names}
use Rattle.feed_reader.specs.Headers.{count_named}
use Rattle.feed_reader.proofs.header.counts.Given as goal

abbrev pub invariant-loop-place : goal.invariant-loop-place
invariant-loop-place l = l.counts ≡ map (count_named l.fields) (take l.place (needed_names l.schema))
