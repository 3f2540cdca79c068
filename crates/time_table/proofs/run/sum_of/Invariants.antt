use Rattle.std.proofs.Common.{◌≡◌, take}
use Rattle.time_table.specs.Counts.{run_total}
use Rattle.time_table.proofs.run.sum_of.Given as goal

abbrev pub invariant-loop-amount : goal.invariant-loop-amount
invariant-loop-amount l = l.sum ≡ run_total (take l.amount-index l.run)
