use Rattle.std.proofs.Common.{◌≡◌}
use Rattle.cube_callers.specs.Records.{HasBinsUnder}
use Rattle.cube_store.specs.Reading.{spot_weight}
use Rattle.example_schemas.specs.Examples.{kinds}
use Rattle.cube_callers.proofs.tests.cube_of_records.Given as goal

abbrev pub invariant-loop : goal.invariant-loop
invariant-loop g l = record {
  schema : l.cube.schema ≡ kinds;
  bins : ∥ HasBinsUnder l.fn.spread (spot_weight l.cube.schema l.cube.arena) l.cube.size ∥₁;
}
