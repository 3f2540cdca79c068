use Rattle.std.proofs.Common.{◌≡◌, ◌-◌, ◌≤◌}
use Rattle.std.specs.FinMap.{entries}
use Rattle.node_arena.specs.Stats.{capped}
use Rattle.shape_test.specs.Fits.{least_points}
use Rattle.shape_test.proofs.RowSums.{rows_upto}
use Rattle.shape_test.proofs.size.rows_size.Given as goal

abbrev pub invariant-loop-bin : goal.invariant-loop-bin
invariant-loop-bin g l = record {
  last : l.from ≤ 4294967296;
  sum : l.size.sum ≡ capped (rows_upto (λ n. n) l.from (entries l.table));
  least : l.size.least ≡ capped (rows_upto least_points l.from (entries l.table));
}

abbrev pub decreases-loop-bin : goal.decreases-loop-bin
decreases-loop-bin g l = 4294967296 - l.from
