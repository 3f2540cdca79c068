use Rattle.std.proofs.Common.{◌≡◌, drop}
use Rattle.cube_schema.specs.Repeats.{repeated_value}
use Rattle.cube_schema.proofs.repeats.repeated_value.Given as goal

-- no category before the place has a repeated value
abbrev pub invariant-loop-category : goal.invariant-loop-category
invariant-loop-category l = repeated_value (drop l.category-index l.categories) ≡ repeated_value l.categories
