use Rattle.std.proofs.Common.{length}
use Rattle.time_table.specs.Blocks.{blocks_under}
use Rattle.time_table.proofs.FirstBlocks.{IsBegun}
use Rattle.time_table.proofs.blocks_of.split_of.Given as goal

abbrev pub invariant-loop-rest : goal.invariant-loop-rest
invariant-loop-rest g l = IsBegun g.T.StoredRow.limit l.rows l.rest l.total (blocks_under l.heads l.blocks)

abbrev pub decreases-loop-rest : goal.decreases-loop-rest
decreases-loop-rest g l = length l.rest
