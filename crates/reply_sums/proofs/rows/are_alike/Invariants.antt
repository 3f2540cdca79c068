use Rattle.std.proofs.Common.{◌≡◌, drop}
use Rattle.std.specs.Prelude.{is_some}
use Rattle.reply_sums.specs.Rows.{sum_rows}
use Rattle.reply_sums.proofs.rows.are_alike.Given as goal

abbrev pub invariant-loop-i : goal.invariant-loop-i
invariant-loop-i l = is_some (sum_rows (drop l.i l.rows) (drop l.i l.others)) ≡ is_some (sum_rows l.rows l.others)
