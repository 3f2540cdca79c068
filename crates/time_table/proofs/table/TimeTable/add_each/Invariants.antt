use Rattle.std.proofs.Common.{◌≡◌, take}
use Rattle.time_table.specs.Counts.{add_run}
use Rattle.time_table.proofs.table.TimeTable.add_each.Given as goal

abbrev pub invariant-loop-i : goal.invariant-loop-i
invariant-loop-i l = l.self ≡ add_run l.fn.self (take l.i l.run)
