use Rattle.std.proofs.Common.{ℕ, ◌<◌}
use Rattle.node_arena.specs.Shape.{home_of}
use Rattle.shape_test.specs.Homes.{walks_of}
use Rattle.shape_test.specs.Places.{place_at}
use Rattle.shape_test.specs.Standing.{MergesAt}
use Rattle.shape_test.proofs.standing.all_merge.Given as goal

abbrev pub invariant-loop-i : goal.invariant-loop-i
invariant-loop-i g l = (k : ℕ) → k < l.i → MergesAt l.schema l.arena k (place_at l.schema (home_of (walks_of l.homes) k))
