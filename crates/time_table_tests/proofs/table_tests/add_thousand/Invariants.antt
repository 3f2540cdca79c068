use Rattle.std.proofs.Common.{◌*◌, ◌≤◌, ◌^◌}
use Rattle.time_table.specs.Counts.{total_count}
use Rattle.time_table_tests.proofs.table_tests.add_thousand.Given as goal

abbrev pub invariant-loop-i : goal.invariant-loop-i
invariant-loop-i g l = total_count l.table ≤ l.i * 2 ^ 33
