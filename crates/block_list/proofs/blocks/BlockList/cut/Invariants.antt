use Rattle.std.proofs.Common.{◌≡◌, ◌≤◌, length, take}
use Rattle.block_list.proofs.blocks.BlockList.cut.Given as goal

abbrev pub invariant-loop-self : goal.invariant-loop-self
invariant-loop-self g l = record {
  kept : take l.n l.self ≡ take l.n l.initial.self;
  enough : l.n ≤ length l.self;
  same : l.n ≡ l.initial.n;
}

abbrev pub decreases-loop-self : goal.decreases-loop-self
decreases-loop-self g l = length l.self
