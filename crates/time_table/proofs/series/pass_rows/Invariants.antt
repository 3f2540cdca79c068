use Rattle.std.proofs.Common.{◌≡◌, ◌+◌, ◌<◌, ◌≤◌, All, length, take}
use Rattle.time_table.specs.Totals.{last_total}
use Rattle.time_table.specs.Series.{GoOn, Tells, KnowsRows}
use Rattle.time_table.proofs.series.pass_rows.Given as goal

abbrev pub invariant-loop-i : goal.invariant-loop-i
invariant-loop-i g l = record {
  on : GoOn l.initial.ends l.ends l.initial.totals l.totals;
  tells : Tells (KnowsRows l.rows.items l.before) l.initial.ends l.ends l.initial.totals l.totals;
  past : l.ends.done < length l.totals → All (λ row. row.bin < l.ends.end) (take l.i l.rows.items);
  below : l.below ≡ last_total 0 (take l.i l.rows.items);
  cost : l.steps ≤ l.initial.steps + l.i;
}
