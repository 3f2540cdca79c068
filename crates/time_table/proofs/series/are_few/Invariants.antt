use Rattle.std.proofs.Common.{◌≡◌, ◌+◌, length, take, sum_by}
use Rattle.time_table.proofs.series.are_few.Given as goal

abbrev pub invariant-loop-block : goal.invariant-loop-block
invariant-loop-block g l = l.left + sum_by (λ b. length b.items) (take l.block-index l.blocks.items) ≡ l.most
