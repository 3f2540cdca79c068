use Rattle.std.proofs.Common.{◌≡◌, false, drop}
use Rattle.reply_sums.specs.Numbers.{are_rows_great}
use Rattle.reply_sums.specs.Rows.{sum_rows}
use Rattle.reply_sums.proofs.RowSums.{after_sums}
use Rattle.reply_sums.proofs.rows.add_rows.Given as goal

abbrev pub invariant-loop-i : goal.invariant-loop-i
invariant-loop-i l = record {
  later : after_sums l.sums (sum_rows (drop l.i l.rows) (drop l.i l.others)) ≡ sum_rows l.rows l.others;
  fits : are_rows_great l.sums ≡ false;
}
