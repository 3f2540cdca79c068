use Rattle.std.proofs.Common.{◌≡◌, ◌-◌}
use Rattle.time_table.specs.Totals.{raised}
use Rattle.time_table.proofs.ItemChanges.{mapped_from}
use Rattle.time_table.proofs.heads.catch_up.Given as goal

abbrev pub invariant-loop-i : goal.invariant-loop-i
invariant-loop-i g l = record {
  items : l.rows.items ≡ mapped_from (raised l.late) l.from (l.i - l.from) l.fn.rows.items;
  room : l.rows.spare ≡ l.fn.rows.spare;
}
