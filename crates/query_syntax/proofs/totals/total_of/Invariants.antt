use Rattle.std.proofs.Common.{◌≡◌, take}
use Rattle.query_syntax.specs.Boxes.{box, total}
use Rattle.query_syntax.proofs.totals.total_of.Given as goal

abbrev pub invariant-loop-point : goal.invariant-loop-point
invariant-loop-point l = l.total ≡ total l.schema (box l.query) (take l.point-index l.points)
