use Rattle.std.proofs.Common.{◌≡◌, ◌+◌, ◌≤◌, take}
use Rattle.time_table.specs.Rows.{row_total}
use Rattle.time_table.specs.Totals.{totals_from}
use Rattle.time_table.proofs.rows.totals_of.Given as goal

abbrev pub invariant-loop-i : goal.invariant-loop-i
invariant-loop-i g l = record {
  made : l.made.items ≡ totals_from 0 (take l.i l.rows);
  total : l.total ≡ row_total (take l.i l.rows);
  room : l.room ≤ l.i + l.made.spare;
}
