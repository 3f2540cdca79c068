use Rattle.std.proofs.Common.{◌≡◌, map, take}
use Rattle.feed_reader.specs.Columns.{needed_names}
use Rattle.feed_reader.specs.Headers.{place_in}
use Rattle.feed_reader.proofs.header.places.Given as goal

abbrev pub invariant-loop-place : goal.invariant-loop-place
invariant-loop-place l = l.places ≡ map (place_in l.fields) (take l.place (needed_names l.schema))
