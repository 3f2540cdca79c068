use Rattle.std.proofs.Common.{◌≡◌, ℕ, ◌+◌, ◌*◌, ◌<◌, get_or}
use Rattle.time_table.specs.Counts.{count_before}
use Rattle.time_table.specs.Totals.{counts}
use Rattle.time_table.specs.Fews.{few_rows}
use Rattle.time_table.proofs.few.Few.pass.Given as goal

abbrev pub invariant-loop-total : goal.invariant-loop-total
invariant-loop-total g l = record {
  end : l.end ≡ l.from + l.total-index * l.wide;
  told : (k : ℕ) → k < l.total-index → get_or l.totals k 0 ≡ count_before (counts (few_rows l.self)) (l.from + k * l.wide);
}
