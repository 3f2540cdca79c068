-- Tiles in path order.
use Rattle.std.specs.Prelude.{ℕ, zero, suc, ◌+◌, List, [], ◌∷◌, map, filter}
use Rattle.std.specs.List.{flat_map, range_with_len}
use Rattle.cube_view.specs.Places.{longer_tile, tile_within}
use Rattle.cube_view.specs.declared.address.Tile.{Tile}
use Rattle.query_syntax.specs.Queries.{whole_space}

-- the four quadrants of a tile, in the order of their labels
abbrev pub quadrants : Tile → List Tile
quadrants t = map (longer_tile 1 t) (range_with_len 0 4)

-- All tiles of a level in path order, by their quadrant labels from the coarsest level down: those of the next
-- level are the quadrants of each
abbrev pub tiles_of_level : ℕ → List Tile
tiles_of_level zero = whole_space ∷ []
tiles_of_level (suc level) = flat_map quadrants (tiles_of_level level)

-- the tiles so many levels below a tile: of all tiles of that level those inside it
abbrev pub tiles_below : ℕ → Tile → List Tile
tiles_below levels t = filter (tile_within t) (tiles_of_level (t.z + levels))

-- the same, as a way down from the tile comes to them
abbrev pub tiles_inside : ℕ → Tile → List Tile
tiles_inside zero t = t ∷ []
tiles_inside (suc levels) t = flat_map (tiles_inside levels) (quadrants t)
