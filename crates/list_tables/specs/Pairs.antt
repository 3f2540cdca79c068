-- The rows of a cross table within a value.
use Rattle.std.specs.Prelude.{ℕ, ◌+◌, List, [], slice_index_or}
use Rattle.query_syntax.specs.declared.table.RowOut.{RowOut}

-- the row of a value by its text and that of value w of another category, whose totals are those from a first on
abbrev pub pair_row_of : List ℕ → List (List ℕ) → List ℕ → ℕ → ℕ → RowOut
pair_row_of first seconds totals start w = RowOut.Pair first (slice_index_or seconds w []) (slice_index_or totals (start + w) 0)
