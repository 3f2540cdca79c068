use Rattle.std.proofs.Common.{length, take}
use Rattle.list_tables.specs.Totals.{AreRowSums}
use Rattle.list_tables.proofs.totals.add_points.Given as goal

abbrev pub invariant-loop-point : goal.invariant-loop-point
invariant-loop-point l = AreRowSums l.schema l.query l.cells (length l.initial.totals) (take l.point-index l.points) l.totals
