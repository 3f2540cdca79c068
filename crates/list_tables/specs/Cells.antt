-- What each row of a table counts, by its number from 0.
use Rattle.std.specs.Prelude.{◌≡◌, ℕ, ◌+◌, ◌*◌, ◌/◌, ◌%◌, ◌^◌, ◌<◌, ◌≤◌, Bool, true, false, ◌==◌, ◌&&◌, nat_le, nat_lt, length, Option, Some, None}
use Rattle.cube_view.specs.declared.address.Tile.{Tile}
use Rattle.cube_view.specs.declared.schema.Schema.{Schema}
use Rattle.list_tables.specs.declared.cells.Cells.{Cells}
use Rattle.list_tables.specs.declared.cells.Cells.TheVariants.{Values, Pairs, Bins, Tiles}
use Rattle.query_syntax.specs.Boxes.{Box, box}
use Rattle.query_syntax.specs.CrossTables.{with_pair}
use Rattle.query_syntax.specs.Narrowing.{with_bins, with_tile, with_value}
use Rattle.query_syntax.specs.Queries.{is_all_bins}
use Rattle.query_syntax.specs.declared.query.Query.{Query}

-- the place of a column and a row in a square of 2^levels by as many tiles, row by row
abbrev pub place_in_square : ℕ → ℕ → ℕ → ℕ
place_in_square levels x y = y % 2 ^ levels * 2 ^ levels + x % 2 ^ levels

-- the tile at a place of the square of tiles so many levels below a tile
abbrev pub tile_at_place : Tile → ℕ → ℕ → Tile
tile_at_place t levels i = record { z = t.z + levels; x = t.x * 2 ^ levels + i % 2 ^ levels; y = t.y * 2 ^ levels + i / 2 ^ levels }

-- the box that row i counts: the query's, narrowed to the row's value, values, bins or tile
abbrev pub cell_box : Query → Cells → ℕ → Box
cell_box q (Values k) i = with_value (box q) k i
cell_box q (Pairs first second wide) i = with_pair (box q) first second (i / wide) (i % wide)
cell_box q (Bins from wide) i = with_bins (box q) (from + i * wide) (from + (i + 1) * wide)
cell_box q (Tiles levels) i = with_tile (box q) (tile_at_place q.region levels i)

-- the values are those of row i, where the second category has so many
abbrev pub has_both : ℕ → ℕ → ℕ → ℕ → Bool
has_both v w wide i = (v == i / wide) && (w == i % wide)

-- the bin is one of row i, of so many bins each from a first one on
abbrev pub is_in_bins : ℕ → ℕ → ℕ → ℕ → Bool
is_in_bins from wide i bin = nat_le (from + i * wide) bin && nat_lt bin (from + (i + 1) * wide)

-- the rows share what the query counts: its categories are there, and its bins or its tiles are whole rows'
abbrev pub Shares : Schema → Query → Cells → Type 0
Shares z q (Values k) = (length q.sets ≡ 4) × (k < 4)
Shares z q (Pairs first second wide) = (length q.sets ≡ 4) × (first < 4) × (second < 4) × (1 ≤ wide) × (wide ≤ 256)
Shares z q (Bins from wide) = (1 ≤ wide) × (is_all_bins q.time ≡ true)
Shares z q (Tiles levels) = (levels ≤ 10) × (q.region.z + levels ≤ z.depth)

-- there is such a row: all but tiles have one of each number
abbrev pub IsRow : Cells → ℕ → Type 0
IsRow (Values k) i = Unit {0}
IsRow (Pairs first second wide) i = Unit {0}
IsRow (Bins from wide) i = Unit {0}
IsRow (Tiles levels) i = i < 2 ^ levels * 2 ^ levels

-- the number is the one that was found, if any was
abbrev pub is_at : Option ℕ → ℕ → Bool
is_at None i = false
is_at (Some found) i = found == i
