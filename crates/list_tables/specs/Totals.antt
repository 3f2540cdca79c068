-- The totals of the rows of a table.
use Rattle.std.specs.Prelude.{◌≡◌, ℕ, ◌+◌, ◌^◌, ◌<◌, List, length, Option, Some, None, slice_index_or, slice_set}
use Rattle.cube_view.specs.Points.{Point}
use Rattle.cube_view.specs.declared.schema.Schema.{Schema}
use Rattle.list_tables.specs.Cells.{cell_box}
use Rattle.list_tables.specs.declared.cells.Cells.{Cells}
use Rattle.query_syntax.specs.Boxes.{total}
use Rattle.query_syntax.specs.declared.query.Query.{Query}

-- the sums, with a weight added to that of the row that was found, if one was
abbrev pub with_one_more : List ℕ → Option ℕ → ℕ → List ℕ
with_one_more sums None weight = sums
with_one_more sums (Some found) weight = slice_set sums found (slice_index_or sums found 0 + weight)

-- the sum of the row has room for the weight
abbrev pub HasPlace : List ℕ → ℕ → ℕ → Type 0
HasPlace sums weight found = (found < length sums) × (slice_index_or sums found 0 + weight < 2 ^ 64)

-- The numbers are the totals of the first so many rows
pub record AreRowSums (schema : Schema) (q : Query) (cells : Cells) (count : ℕ) (h : List Point) (totals : List ℕ) : Type 0 where
  -- there is one for each
  pub many : length totals ≡ count
  -- and it is what the row's box has of the list
  pub each : (i : ℕ) → i < count → slice_index_or totals i 0 ≡ total schema (cell_box q cells i) h
