-- The rows of a map, as a way down from a tile comes to them.
use Rattle.std.specs.Prelude.{ℕ, List}
use Rattle.std.specs.List.{filter_map}
use Rattle.cube_view.specs.Points.{Point}
use Rattle.cube_view.specs.declared.address.Tile.{Tile}
use Rattle.cube_view.specs.declared.schema.Schema.{Schema}
use Rattle.query_syntax.specs.Tables.{area_row}
use Rattle.query_syntax.specs.TileOrder.{tiles_inside}
use Rattle.query_syntax.specs.declared.query.Query.{Query}
use Rattle.query_syntax.specs.declared.table.RowOut.{RowOut}

-- the rows of the tiles so many levels below a tile, inside it
abbrev pub areas_inside : Schema → Query → List Point → ℕ → Tile → List RowOut
areas_inside schema q h levels t = filter_map (area_row schema q h) (tiles_inside levels t)
