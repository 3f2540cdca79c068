-- Rows of running totals, and the counts that they stand for.
use Rattle.std.specs.Prelude.{ℕ, ◌+◌, ◌-◌, ◌<◌, ◌≤◌, ◌^◌, List, [], ◌∷◌, Option, None, Some}
use Rattle.std.specs.FinMap.{from_sorted}
use Rattle.time_table.specs.declared.row.Row.{Row}
use Rattle.time_table.specs.Counts.{BinCounts}

-- rows are ordered and searched by their bin
abbrev pub row_bin : Row → ℕ
row_bin row = row.bin

-- the bins are `least` or later and rise, and the totals are above `before` and rise
abbrev pub Rise : ℕ → ℕ → List Row → Type 0
Rise least before [] = Unit {0}
Rise least before (row ∷ rows) = (least ≤ row.bin) × (before < row.total) × Rise (row.bin + 1) row.total rows

-- each bin with its count, where the total before the rows is `before`
abbrev pub counts_from : ℕ → List Row → List (ℕ × ℕ)
counts_from before [] = []
counts_from before (row ∷ rows) = (row.bin, row.total - before) ∷ counts_from row.total rows

-- rows with their running totals, where the total before them is `before`
abbrev pub totals_from : ℕ → List (ℕ × ℕ) → List Row
totals_from before [] = []
totals_from before (e ∷ es) = record { bin = e.0; total = before + e.1 } ∷ totals_from (before + e.1) es

-- the counts of rows that rise
unfoldable pub counts : List Row → BinCounts
counts rows = from_sorted (counts_from 0 rows)

-- the total of the last row, or the one before the rows where there is none
abbrev pub last_total : ℕ → List Row → ℕ
last_total before [] = before
last_total before (row ∷ rows) = last_total row.total rows

-- the bin after the last row's, or the least one where there is none
abbrev pub bin_after : ℕ → List Row → ℕ
bin_after least [] = least
bin_after least (row ∷ rows) = bin_after (row.bin + 1) rows

-- a total that rows may have: at most 2^63, and less than the limit of their kind
pub record IsTotal (limit n : ℕ) : Type 0 where
  pub half : n ≤ 2 ^ 63
  pub small : n < limit

-- the total of a row, 0 where there is none
abbrev pub total_in : Option Row → ℕ
total_in None = 0
total_in (Some row) = row.total

-- a row whose total is larger by an amount
abbrev pub raised : ℕ → Row → Row
raised n row = record { bin = row.bin; total = row.total + n }

-- a row whose total is less by an amount
abbrev pub lowered : ℕ → Row → Row
lowered n row = record { bin = row.bin; total = row.total - n }
