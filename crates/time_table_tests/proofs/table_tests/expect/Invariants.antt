use Rattle.std.proofs.Common.{◌+◌, ◌≤◌, ◌^◌}
use Rattle.time_table.specs.Counts.{total_count}
use Rattle.time_table_tests.proofs.table_tests.expect.Given as goal

abbrev pub invariant-loop-case : goal.invariant-loop-case
invariant-loop-case g l = total_count l.table + l.room ≤ 2 ^ 63
