use Rattle.std.proofs.Common.{◌≡◌, ◌+◌, ◌≤◌, take}
use Rattle.time_table.proofs.block.block_of.Given as goal

abbrev pub invariant-loop-i : goal.invariant-loop-i
invariant-loop-i g l = record {
  same : l.block.items ≡ take l.i l.rows.items;
  room : 64 ≤ l.i + l.block.spare;
}
