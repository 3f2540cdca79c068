use Rattle.shape_test.proofs.RowRemainders.{IsTaken}
use Rattle.shape_test.proofs.remainder.take_off.Given as goal

abbrev pub invariant-loop-i : goal.invariant-loop-i
invariant-loop-i l = IsTaken l.fn.left l.rows l.left l.i l.next
