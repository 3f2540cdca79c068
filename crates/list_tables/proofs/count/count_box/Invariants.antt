use Rattle.std.proofs.Common.{◌≡◌, take}
use Rattle.query_syntax.specs.Boxes.{box, total}
use Rattle.list_tables.proofs.count.count_box.Given as goal

abbrev pub invariant-loop-point : goal.invariant-loop-point
invariant-loop-point l = l.sum ≡ total l.schema (box l.query) (take l.point-index l.points)
