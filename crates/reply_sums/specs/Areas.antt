-- The sum of the rows of two maps: the rows of a list of tiles, as they come in it.
use Rattle.std.specs.Prelude.{ℕ, ◌+◌, Bool, true, false, ◌&&◌, not, ◌==◌, if◌then◌else◌, List, [], ◌∷◌, Option, Some, None}
use Rattle.std.specs.List.{cons_option}
use Rattle.cross_table.specs.Ranking.{total_of_row}
use Rattle.cube_view.specs.declared.address.Tile.{Tile}
use Rattle.query_syntax.specs.declared.table.RowOut.{RowOut}

-- the two are one tile
abbrev pub same_tile : Tile → Tile → Bool
same_tile t u = (t.z == u.z) && (t.x == u.x) && (t.y == u.y)

-- the row is that of the tile, which has a total
abbrev pub is_row_of : Tile → RowOut → Bool
is_row_of t (RowOut.One n) = false
is_row_of t (RowOut.Value s n) = false
is_row_of t (RowOut.Area u n) = same_tile t u && not (n == 0)
is_row_of t (RowOut.Bin s n) = false
is_row_of t (RowOut.Pair s v n) = false

-- the tile's total, where the first row is the tile's, else 0
abbrev pub head_total : Tile → List RowOut → ℕ
head_total t [] = 0
head_total t (row ∷ rows) = if is_row_of t row then total_of_row row else 0

-- the rows after the tile's, where the first row is
abbrev pub after_head : Tile → List RowOut → List RowOut
after_head t [] = []
after_head t (row ∷ rows) = if is_row_of t row then rows else (row ∷ rows)

-- the tile's row, if its total isn't 0
abbrev pub row_of_total : Tile → ℕ → Option RowOut
row_of_total t n = if n == 0 then None else Some (RowOut.Area t n)

-- what is left of the rows once each of the tiles had its row taken off the front, if it stood there
unfoldable pub left_after : List Tile → List RowOut → List RowOut
left_after [] rows = rows
left_after (t ∷ ts) rows = left_after ts (after_head t rows)

-- the rows of the tiles with the totals of both lists together, without those of 0
unfoldable pub areas_of_both : List Tile → List RowOut → List RowOut → List RowOut
areas_of_both [] rows others = []
areas_of_both (t ∷ ts) rows others = cons_option (row_of_total t (head_total t rows + head_total t others)) (areas_of_both ts (after_head t rows) (after_head t others))

-- no row is there
abbrev pub is_none_left : List RowOut → Bool
is_none_left [] = true
is_none_left (row ∷ rows) = false

-- the sum of the rows of two maps of the tiles; none where one has a row of no tile, out of order, or of total 0
abbrev pub sum_areas : List Tile → List RowOut → List RowOut → Option (List RowOut)
sum_areas ts rows others = if is_none_left (left_after ts rows) && is_none_left (left_after ts others) then Some (areas_of_both ts rows others) else None
