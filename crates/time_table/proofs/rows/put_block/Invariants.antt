use Rattle.std.proofs.Common.{◌≡◌, ◌+◌, ◌≤◌, ◌++◌, take}
use Rattle.time_table.specs.Totals.{counts_from, last_total}
use Rattle.time_table.proofs.rows.put_block.Given as goal

abbrev pub invariant-loop-i : goal.invariant-loop-i
invariant-loop-i g l = record {
  put : l.out.items ≡ l.fn.out.items ++ counts_from 0 (take l.i l.rows.items);
  below : l.below ≡ last_total 0 (take l.i l.rows.items);
  cost : l.steps ≤ l.fn.steps + l.i;
}
