use Rattle.std.proofs.Common.{◌≡◌}
use Rattle.shape_test.specs.Wholes.{spelled_rows}
use Rattle.shape_test.specs.Homes.{walks_of}
use Rattle.shape_test.specs.Labels.{schema_levels}
use Rattle.shape_test.specs.Sizes.{size_of}
use Rattle.shape_test.proofs.size.bag_size.Given as goal

abbrev pub invariant-loop-i : goal.invariant-loop-i
invariant-loop-i g l = l.size ≡ size_of (spelled_rows (schema_levels l.schema) l.arena (walks_of l.homes) l.i)
