use Rattle.std.proofs.Common.{◌≡◌, ℕ, ◌+◌, ◌<◌, ◌≤◌, All, length, take, sum_by}
use Rattle.probe_core.specs.Bits.{bits}
use Rattle.time_table.specs.Counts.{count_before}
use Rattle.time_table.specs.Totals.{counts, last_total}
use Rattle.time_table.specs.Blocks.{flat}
use Rattle.time_table.specs.Series.{HaveRoom, AreTold}
use Rattle.time_table.proofs.series.pass_blocks.Given as goal

abbrev pub invariant-loop-q : goal.invariant-loop-q
invariant-loop-q g l = record {
  room : HaveRoom l.ends l.totals;
  wide : l.ends.wide ≡ l.wide;
  told : AreTold (count_before (counts (flat 0 l.blocks.items))) l.from l.ends l.totals;
  before : l.before ≡ last_total 0 (take l.q l.heads.items);
  past : l.ends.done < length l.totals → l.q < length l.heads.items → All (λ head. head.bin < l.ends.end) (take l.q l.heads.items);
  rest : l.ends.done < length l.totals → l.q ≡ length l.heads.items → (e : ℕ) → l.ends.end ≤ e → count_before (counts (flat 0 l.blocks.items)) e ≡ l.before;
  cost : l.steps ≤ l.fn.steps + (bits (length l.heads.items) + sum_by (λ b. length b.items) (take l.q l.blocks.items));
}
