use Rattle.time_table.proofs.RunRows.{IsMerging}
use Rattle.time_table.proofs.run.merged.Given as goal

abbrev pub invariant-loop-i : goal.invariant-loop-i
invariant-loop-i g l = IsMerging l.rows.items l.run l.i l.place l.more l.merged.items
