use Rattle.std.proofs.Common.{◌≡◌, ◌+◌, ◌≤◌, length, drop}
use Rattle.time_table.proofs.pair.drop_first.Given as goal

abbrev pub invariant-loop-i : goal.invariant-loop-i
invariant-loop-i g l = record {
  dropped : l.rows.items ≡ drop l.i l.fn.rows.items;
  room : length l.fn.rows.items + l.fn.rows.spare ≤ length l.rows.items + l.rows.spare;
}
