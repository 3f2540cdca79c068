use Rattle.std.proofs.Common.{◌≡◌, length, take}
use Rattle.time_table.specs.Blocks.{lists, AllSized}
use Rattle.time_table.proofs.split.copy_blocks.Given as goal

abbrev pub invariant-loop-i : goal.invariant-loop-i
invariant-loop-i g l = record {
  same : lists l.copies.items ≡ take l.i (lists l.blocks.items);
  sized : AllSized l.copies.items;
  many : length l.copies.items ≡ l.i;
}
