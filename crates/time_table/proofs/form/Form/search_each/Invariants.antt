use Rattle.std.proofs.Common.{◌≡◌, ℕ, ◌+◌, ◌*◌, ◌<◌, ◌≤◌, get_or}
use Rattle.time_table.specs.Counts.{count_before}
use Rattle.time_table.specs.Totals.{counts}
use Rattle.time_table.specs.Forms.{rows_of, find_cost}
use Rattle.time_table.proofs.form.Form.search_each.Given as goal

abbrev pub invariant-loop-total : goal.invariant-loop-total
invariant-loop-total g l = record {
  end : l.end ≡ l.from + l.total-index * l.wide;
  told : (k : ℕ) → k < l.total-index → get_or l.totals k 0 ≡ count_before (counts (rows_of l.self)) (l.from + k * l.wide);
  cost : l.steps ≤ l.initial.steps + l.total-index * find_cost l.self;
}
