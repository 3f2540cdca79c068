-- The best tiles: those so many levels below a query's region that have the greatest totals.
use Rattle.std.specs.Prelude.{ℕ, zero, suc, ◌==◌, List, [], ◌++◌, map, filter, take}
use Rattle.cube_view.specs.Bag.{amount, anywhere}
use Rattle.cube_view.specs.declared.address.Tile.{Tile}
use Rattle.cube_view.specs.declared.schema.Schema.{Schema}
use Rattle.cube_view.specs.declared.spot.Point.{Point}
use Rattle.query_syntax.specs.Boxes.{box, total}
use Rattle.query_syntax.specs.Narrowing.{with_tile}
use Rattle.query_syntax.specs.TileOrder.{tiles_below}
use Rattle.query_syntax.specs.declared.query.Query.{Query}
use Rattle.query_syntax.specs.declared.table.RowOut.{RowOut}

module _ (schema : Schema) (q : Query) (h : List Point) where
  -- how much of the list the query counts with that tile as its region
  abbrev pub area_total : Tile → ℕ
  area_total t = total schema (with_tile (box q) t) h

  -- of the tiles so many levels below the region those of that total, in path order
  abbrev pub tiles_of_total : ℕ → ℕ → List Tile
  tiles_of_total levels w = filter (λ t. area_total t == w) (tiles_below levels q.region)

  -- those of a total from w down to 1: first the tiles of the greatest total, then those of the next
  abbrev pub tiles_by_total : ℕ → ℕ → List Tile
  tiles_by_total levels zero = []
  tiles_by_total levels (suc w) = tiles_of_total levels (suc w) ++ tiles_by_total levels w

  -- the first so many of them; no total is over what all points weigh
  unfoldable pub top_tiles : ℕ → ℕ → List Tile
  top_tiles levels rows = take rows (tiles_by_total levels (amount anywhere h))

  -- their rows
  unfoldable pub top_rows : ℕ → ℕ → List RowOut
  top_rows levels rows = map (λ t. RowOut.Area t (area_total t)) (top_tiles levels rows)
