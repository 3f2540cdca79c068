use Rattle.group_insert.proofs.Runs.{IsGathering}
use Rattle.group_insert.proofs.count.gather_run.Given as goal

abbrev pub invariant-loop-len : goal.invariant-loop-len
invariant-loop-len l = IsGathering l.part l.from l.place l.least l.len l.run
