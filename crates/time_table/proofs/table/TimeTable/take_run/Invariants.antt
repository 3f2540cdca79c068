use Rattle.std.proofs.Common.{◌≡◌, ◌≤◌, drop, length}
use Rattle.time_table.specs.Counts.{take_run}
use Rattle.time_table.proofs.table.TimeTable.take_run.Given as goal

abbrev pub invariant-loop-left : goal.invariant-loop-left
invariant-loop-left l = record { within : l.left ≤ length l.run; taken : l.self ≡ take_run l.fn.self (drop l.left l.run) }

abbrev pub decreases-loop-left : goal.decreases-loop-left
decreases-loop-left l = l.left
