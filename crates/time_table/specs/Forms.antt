-- The forms of a table: a few rows in its own bytes, one list of rows, or blocks under heads.
use Rattle.std.specs.Prelude.{ℕ, ◌+◌, ◌<◌, ◌≤◌, ◌^◌, List, length, All}
use Rattle.probe_core.specs.Bits.{bits}
use Rattle.time_table.specs.declared.row.Row.{Row}
use Rattle.time_table.specs.declared.form.Form.{Form}
use Rattle.time_table.specs.declared.form.Form.TheVariants.{Few, Single, Split, WideSingle, WideSplit}
use Rattle.time_table.specs.Totals.{Rise, counts_from, last_total}
use Rattle.time_table.specs.Places.{added}
use Rattle.time_table.specs.Blocks.{flat, parts, IsSplit}
use Rattle.time_table.specs.Fews.{few_rows}

-- the rows of a table as one list
abbrev pub rows_of : Form → List Row
rows_of (Few few) = few_rows few
rows_of (Single rows) = rows.items
rows_of (Split split) = flat 0 split.value.blocks.items
rows_of (WideSingle rows) = rows.items
rows_of (WideSplit split) = flat 0 split.value.blocks.items

-- the bins with their counts
abbrev pub form_entries : Form → List (ℕ × ℕ)
form_entries (Few few) = counts_from 0 (few_rows few)
form_entries (Single rows) = counts_from 0 rows.items
form_entries (Split split) = parts split.value.blocks.items
form_entries (WideSingle rows) = counts_from 0 rows.items
form_entries (WideSplit split) = parts split.value.blocks.items

-- how many records there are
abbrev pub total_of : Form → ℕ
total_of (Few few) = last_total 0 (few_rows few)
total_of (Single rows) = last_total 0 rows.items
total_of (Split split) = last_total 0 split.value.heads.items
total_of (WideSingle rows) = last_total 0 rows.items
total_of (WideSplit split) = last_total 0 split.value.heads.items

-- at most how many rows a search looks at: each of a few, and a search of the heads is followed by one of a block
abbrev pub find_cost : Form → ℕ
find_cost (Few few) = length (few_rows few)
find_cost (Single rows) = bits (length rows.items)
find_cost (Split split) = bits (length split.value.heads.items) + 6
find_cost (WideSingle rows) = bits (length rows.items)
find_cost (WideSplit split) = bits (length split.value.heads.items) + 6

-- rows without blocks
pub record IsSingle (rows : List Row) : Type 0 where
  pub rise : Rise 0 0 rows
  pub bins : All (λ row. row.bin ≤ 4294967295) rows
  pub few : length rows ≤ 63

-- the form of a table: rows without blocks, in its own bytes or on the heap, or rows in blocks
abbrev pub IsForm : Form → Type 0
IsForm (Few few) = IsSingle (few_rows few)
IsForm (Single rows) = IsSingle rows.items
IsForm (Split split) = IsSplit (2 ^ 32) split.value.heads.items split.value.blocks.items
IsForm (WideSingle rows) = IsSingle rows.items
IsForm (WideSplit split) = IsSplit (2 ^ 64) split.value.heads.items split.value.blocks.items

-- the rows do not lie in the table's own bytes
abbrev pub IsListed : Form → Type 0
IsListed (Few few) = ⊥
IsListed (Single rows) = Unit {0}
IsListed (Split split) = Unit {0}
IsListed (WideSingle rows) = Unit {0}
IsListed (WideSplit split) = Unit {0}

-- the rows have totals of 64 bits, or totals of 32 bits with n records more too
abbrev pub MayRise : ℕ → Form → Type 0
MayRise n (Few few) = last_total 0 (few_rows few) + n < 2 ^ 32
MayRise n (Single rows) = last_total 0 rows.items + n < 2 ^ 32
MayRise n (Split split) = last_total 0 split.value.heads.items + n < 2 ^ 32
MayRise n (WideSingle rows) = Unit {0}
MayRise n (WideSplit split) = Unit {0}

-- the rows do not lie in the table's own bytes, and a list without blocks has a row of the bin or room for one
abbrev pub HasRoom : ℕ → Form → Type 0
HasRoom bin (Few few) = ⊥
HasRoom bin (Single rows) = (n : ℕ) → length (added 0 bin n rows.items) ≤ 63
HasRoom bin (Split split) = Unit {0}
HasRoom bin (WideSingle rows) = (n : ℕ) → length (added 0 bin n rows.items) ≤ 63
HasRoom bin (WideSplit split) = Unit {0}

-- a list without blocks has room for so many rows more
abbrev pub HasRoomFor : ℕ → Form → Type 0
HasRoomFor n (Few few) = length (few_rows few) + n ≤ 63
HasRoomFor n (Single rows) = length rows.items + n ≤ 63
HasRoomFor n (Split split) = ⊥
HasRoomFor n (WideSingle rows) = ⊥
HasRoomFor n (WideSplit split) = ⊥
