use Rattle.std.proofs.Common.{◌≡◌, false, take, length, nat_le}
use Rattle.std.specs.List.{list_any}
use Rattle.feed_reader.proofs.fields.Fields.is_short.Given as goal

abbrev pub invariant-loop-place : goal.invariant-loop-place
invariant-loop-place l = list_any (λ place. nat_le (length l.self) place) (take l.place-index l.places) ≡ false
