use Rattle.std.proofs.Common.{◌≡◌, ℕ, ◌+◌, take}
use Rattle.probe_core.specs.Places.{RisesBy}
use Rattle.time_table.specs.Counts.{amount_at}
use Rattle.shape_test.specs.Ends.{ends_count}
use Rattle.shape_test.specs.Remainder.{row_key}
use Rattle.shape_test.proofs.remainder.take_ends.Given as goal

abbrev pub invariant-loop-part : goal.invariant-loop-part
invariant-loop-part g l = record {
  rises : RisesBy row_key l.left;
  left : (bin : ℕ) → amount_at bin l.fn.left ≡ amount_at bin l.left + ends_count l.arena (take l.part-index l.parts) bin;
}
