-- Rows in the order of their totals.
use Rattle.std.specs.Prelude.{◌≡◌, ℕ, zero, suc, ◌≤◌, ◌==◌, All, List, [], ◌++◌, filter, take}
use Rattle.query_syntax.specs.declared.table.RowOut.{RowOut}
use Rattle.query_syntax.specs.declared.table.RowOut.TheVariants.{One, Value, Area, Bin, Pair}

-- the total of a row
abbrev pub total_of_row : RowOut → ℕ
total_of_row (One n) = n
total_of_row (Value text n) = n
total_of_row (Area tile n) = n
total_of_row (Bin from n) = n
total_of_row (Pair first second n) = n

-- of some rows those of a total from w down to 1: first those of the greatest total, and of one total as they stood
abbrev pub rows_by_total : List RowOut → ℕ → List RowOut
rows_by_total rows zero = []
rows_by_total rows (suc w) = filter (λ row. total_of_row row == suc w) rows ++ rows_by_total rows w

-- the rows have totals from 1 to the most
abbrev pub AreWithin : ℕ → List RowOut → Type 0
AreWithin most rows = All (λ row. (1 ≤ total_of_row row) × (total_of_row row ≤ most)) rows

-- the second list has the first so many of the rows in the order of their totals, if none of these is 0
abbrev pub IsFirstByTotal : List RowOut → ℕ → List RowOut → Type 0
IsFirstByTotal rows count first = (most : ℕ) → AreWithin most rows → first ≡ take count (rows_by_total rows most)
