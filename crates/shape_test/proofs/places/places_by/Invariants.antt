use Rattle.std.proofs.Common.{◌≡◌, length}
use Rattle.shape_test.specs.Homes.{walks_of}
use Rattle.shape_test.specs.Places.{AreFirstPlaces}
use Rattle.shape_test.proofs.places.places_by.Given as goal

abbrev pub invariant-loop-slot : goal.invariant-loop-slot
invariant-loop-slot l = record {
  size : length l.places ≡ l.slot;
  each : AreFirstPlaces l.schema (walks_of l.homes) l.places;
}
