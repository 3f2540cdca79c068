use Rattle.std.proofs.Common.{◌≡◌, ◌≤◌, length}
use Rattle.cube_image.proofs.SlotNumbers.{NumbersFrom}
use Rattle.cube_image.proofs.order.numbers_of.Given as goal

abbrev pub invariant-loop-at : goal.invariant-loop-at
invariant-loop-at l = record {
  within : l.at ≤ length l.places;
  size : length l.numbers.items ≡ l.n;
  found : NumbersFrom l.places l.numbers.items l.at;
}

abbrev pub decreases-loop-at : goal.decreases-loop-at
decreases-loop-at l = l.at
