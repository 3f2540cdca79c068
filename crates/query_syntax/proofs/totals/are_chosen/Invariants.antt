use Rattle.std.proofs.Common.{◌≡◌}
use Rattle.query_syntax.proofs.BoxSteps.{chosen_from}
use Rattle.query_syntax.proofs.totals.are_chosen.Given as goal

abbrev pub invariant-loop-k : goal.invariant-loop-k
invariant-loop-k l = chosen_from l.sets l.values 0 ≡ chosen_from l.sets l.values l.k
