use Rattle.cube_view.specs.Points.{spot_of}
use Rattle.group_insert.specs.Added.{IsOneBin}
use Rattle.group_insert.proofs.count.one_bin.Given as goal

abbrev pub invariant-loop-i : goal.invariant-loop-i
invariant-loop-i l = IsOneBin l.part l.from l.i (spot_of l.first).bin l.amount
