use Rattle.std.proofs.Common.{◌≡◌, ◌+◌, ◌≤◌, ◌++◌, length, sum_by, take}
use Rattle.time_table.specs.Blocks.{parts}
use Rattle.time_table.proofs.rows.put_blocks.Given as goal

abbrev pub invariant-loop-q : goal.invariant-loop-q
invariant-loop-q g l = record {
  put : l.out.items ≡ l.fn.out.items ++ parts (take l.q l.blocks.items);
  cost : l.steps ≤ l.fn.steps + sum_by (λ b. length b.items) (take l.q l.blocks.items);
}
