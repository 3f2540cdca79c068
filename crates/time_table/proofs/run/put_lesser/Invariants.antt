use Rattle.std.proofs.Common.{◌≡◌, ◌<◌, ◌++◌, drop, map, All}
use Rattle.time_table.specs.Totals.{raised}
use Rattle.time_table.proofs.run.put_lesser.Given as goal

abbrev pub invariant-loop-i : goal.invariant-loop-i
invariant-loop-i g l = record {
  same : l.merged.items ++ map (raised l.amount) (drop l.i l.rows.items) ≡ l.fn.merged.items ++ map (raised l.amount) (drop l.from l.rows.items);
  lesser : All (λ r. r.bin < l.bin_end) l.fn.merged.items → All (λ r. r.bin < l.bin_end) l.merged.items;
}
