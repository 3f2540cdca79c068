use Rattle.std.proofs.Common.{◌≡◌, take}
use Rattle.cube_view.specs.Bag.{amount}
use Rattle.query_syntax.specs.Windows.{is_in_window}
use Rattle.list_tables.proofs.count.count_window.Given as goal

abbrev pub invariant-loop-point : goal.invariant-loop-point
invariant-loop-point l = l.sum ≡ amount (is_in_window l.query l.rect) (take l.point-index l.points)
