-- Heads that are raised late: those from a place on stand too low, all by one amount.
use Rattle.std.specs.Prelude.{ℕ, ◌+◌, ◌<◌, ◌≤◌, ◌^◌, List, ◌++◌, length, take, drop, map, All}
use Rattle.time_table.specs.declared.row.Row.{Row}
use Rattle.time_table.specs.Totals.{raised}

-- the rows, with totals larger by an amount from a place on
abbrev pub raised_from : ℕ → ℕ → List Row → List Row
raised_from from n rows = take from rows ++ map (raised n) (drop from rows)

-- rows that stand an amount too low from a place on, and whose totals have 64 bits with it
pub record IsLate (from late : ℕ) (rows : List Row) : Type 0 where
  pub within : from ≤ length rows
  pub fits : All (λ row. row.total + late < 2 ^ 64) (drop from rows)
