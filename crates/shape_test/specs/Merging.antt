-- The rows of a table, from a bin on.
use Rattle.std.specs.Prelude.{◌≡◌, ℕ, ◌<◌, ◌≤◌, ◌^◌}
use Rattle.time_table.specs.Counts.{BinCounts, count_of}

-- no bin from one on has a record
abbrev pub NoRowFrom : BinCounts → ℕ → Type 0
NoRowFrom m from = (bin : ℕ) → from ≤ bin → count_of m bin ≡ 0

-- the row is the first from a bin on
pub record IsFirstRow (m : BinCounts) (from : ℕ) (row : ℕ × ℕ) : Type 0 where
  pub low : from ≤ row.0
  pub small : row.0 < 2 ^ 32
  pub there : count_of m row.0 ≡ row.1
  pub least : (bin : ℕ) → from ≤ bin → bin < row.0 → count_of m bin ≡ 0
