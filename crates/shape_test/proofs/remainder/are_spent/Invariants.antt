use Rattle.std.proofs.Common.{◌≡◌, ℕ, take}
use Rattle.time_table.specs.Counts.{amount_at}
use Rattle.shape_test.proofs.remainder.are_spent.Given as goal

abbrev pub invariant-loop-row : goal.invariant-loop-row
invariant-loop-row l = (bin : ℕ) → amount_at bin (take l.row-index l.rows) ≡ 0
