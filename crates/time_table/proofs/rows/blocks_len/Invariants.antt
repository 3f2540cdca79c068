use Rattle.std.proofs.Common.{◌≡◌, length, take, sum_by}
use Rattle.time_table.proofs.rows.blocks_len.Given as goal

abbrev pub invariant-loop-block : goal.invariant-loop-block
invariant-loop-block g l = l.len ≡ sum_by (λ b. length b.items) (take l.block-index l.blocks.items)
