use Rattle.std.proofs.Common.{◌≡◌, ◌+◌, ◌≤◌, length, take}
use Rattle.time_table.specs.Blocks.{one_list}
use Rattle.time_table.proofs.pair.append.Given as goal

abbrev pub invariant-loop-i : goal.invariant-loop-i
invariant-loop-i g l = record {
  put : l.left.items ≡ one_list l.fn.left.items (take l.i l.right.items);
  long : length l.left.items ≡ length l.fn.left.items + l.i;
  room : length l.fn.left.items + l.fn.left.spare ≤ length l.left.items + l.left.spare;
}
