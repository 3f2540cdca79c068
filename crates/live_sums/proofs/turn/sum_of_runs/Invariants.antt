use Rattle.live_sums.proofs.RunSums.{SoFar}
use Rattle.live_sums.proofs.turn.sum_of_runs.Given as goal

abbrev pub invariant-loop-i : goal.invariant-loop-i
invariant-loop-i g l = SoFar g.S.Source.left l.schema l.asked l.initial.runs l.runs l.i l.sum
