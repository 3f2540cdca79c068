-- The rows of a map, read off the totals of a square of tiles.
use Rattle.std.specs.Prelude.{◌≡◌, ℕ, ◌*◌, ◌^◌, ◌≤◌, ◌==◌, if◌then◌else◌, length, Option, Some, None, slice_index_or}
use Rattle.cube_view.specs.declared.address.Tile.{Tile}
use Rattle.list_tables.specs.Cells.{place_in_square}
use Rattle.list_tables.specs.declared.areas.Square.{Square}
use Rattle.query_syntax.specs.declared.table.RowOut.{RowOut}

-- the total that a tile of the square has there
abbrev pub square_total : Square → Tile → ℕ
square_total square t = slice_index_or square.totals (place_in_square square.levels t.x t.y) 0

-- the row of a tile of the square: with its total there, if it isn't 0
abbrev pub area_in : Square → Tile → Option RowOut
area_in square t = if square_total square t == 0 then None else Some (RowOut.Area t (square_total square t))

-- the square has a number for each of its tiles
abbrev pub IsSquare : Square → Type 0
IsSquare square = (square.levels ≤ 10) × (length square.totals ≡ 2 ^ square.levels * 2 ^ square.levels)
