use Rattle.std.proofs.Common.{◌≡◌, ◌+◌, ◌≤◌, length}
use Rattle.time_table.specs.Blocks.{one_list}
use Rattle.time_table.proofs.pair.level.Given as goal

abbrev pub invariant-loop-left : goal.invariant-loop-left
invariant-loop-left g l = record {
  same : one_list l.left.items l.right.items ≡ one_list l.fn.left.items l.fn.right.items;
  sum : length l.left.items + length l.right.items ≡ length l.fn.left.items + length l.fn.right.items;
  some : 31 ≤ length l.left.items;
  room_left : 64 ≤ length l.left.items + l.left.spare;
  room_right : 64 ≤ length l.right.items + l.right.spare;
}

abbrev pub decreases-loop-left : goal.decreases-loop-left
decreases-loop-left g l = length l.right.items

abbrev pub invariant-loop-left-2 : goal.invariant-loop-left-2
invariant-loop-left-2 g l = record {
  same : one_list l.left.items l.right.items ≡ one_list l.fn.left.items l.fn.right.items;
  sum : length l.left.items + length l.right.items ≡ length l.fn.left.items + length l.fn.right.items;
  some : 31 ≤ length l.left.items;
  most : length l.left.items ≤ 64;
  room_left : 64 ≤ length l.left.items + l.left.spare;
  room_right : 64 ≤ length l.right.items + l.right.spare;
}

abbrev pub decreases-loop-left-2 : goal.decreases-loop-left-2
decreases-loop-left-2 g l = length l.right.items

abbrev pub invariant-loop-left-3 : goal.invariant-loop-left-3
invariant-loop-left-3 g l = record {
  same : one_list l.left.items l.right.items ≡ one_list l.fn.left.items l.fn.right.items;
  sum : length l.left.items + length l.right.items ≡ length l.fn.left.items + length l.fn.right.items;
  most : length l.right.items ≤ length l.left.items + 1;
  room_left : 64 ≤ length l.left.items + l.left.spare;
  room_right : 64 ≤ length l.right.items + l.right.spare;
}

abbrev pub decreases-loop-left-3 : goal.decreases-loop-left-3
decreases-loop-left-3 g l = length l.left.items
