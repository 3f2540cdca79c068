-- The result table of a query over a list of points: each row is a direct total.
--
-- The tables are the rollups and drilldowns of Lins, Klosowski and Scheidegger, "Nanocubes for Real-Time
-- Exploration of Spatiotemporal Datasets", IEEE TVCG 2013.
use Rattle.std.specs.Prelude.{ℕ, ◌+◌, ◌*◌, Bool, true, false, ◌==◌, if◌then◌else◌, List, [], ◌∷◌, length, map, Option, Some, None, slice_index_or}
use Rattle.std.specs.List.{filter_map, range_with_len}
use Rattle.cube_view.specs.declared.spot.Point.{Point}
use Rattle.cube_view.specs.declared.address.Tile.{Tile}
use Rattle.cube_view.specs.declared.schema.Schema.{Schema}
use Rattle.query_syntax.specs.Boxes.{box, total}
use Rattle.query_syntax.specs.CrossTables.{cross_rows}
use Rattle.query_syntax.specs.Items.{values_at}
use Rattle.query_syntax.specs.Narrowing.{with_bins, with_tile, with_value}
use Rattle.query_syntax.specs.TileOrder.{tiles_below}
use Rattle.query_syntax.specs.TopTiles.{top_rows}
use Rattle.query_syntax.specs.Windows.{window_total}
use Rattle.query_syntax.specs.declared.query.Query.{Query}
use Rattle.query_syntax.specs.declared.query.Verb.{Verb}
use Rattle.query_syntax.specs.declared.query.Verb.TheVariants.{Count, Hist, Map, Series, Window, Cross, Best, Stat, Told, Quit}
use Rattle.query_syntax.specs.declared.table.RowOut.{RowOut}
use Rattle.query_syntax.specs.declared.table.Table.{Table}

-- the verb asks for a table
abbrev pub has_table : Verb → Bool
has_table Stat = false
has_table Told = false
has_table Quit = false
has_table other = true

-- the verb's table has rows along one dimension at most, all that there are; the loading machine's looks ask for these
abbrev pub is_drill : Verb → Bool
is_drill Count = true
is_drill (Hist k) = true
is_drill (Map down) = true
is_drill (Series from wide rows) = true
is_drill other = false

module _ (schema : Schema) (q : Query) (h : List Point) where
  -- the row of value v of category k: its text, and the total with this value
  abbrev pub value_row : ℕ → ℕ → RowOut
  value_row k v = RowOut.Value (slice_index_or (values_at schema.categories k) v []) (total schema (with_value (box q) k v) h)

  -- the row of a tile: the total with this tile as the region, if it isn't 0
  abbrev pub area_row : Tile → Option RowOut
  area_row t = if total schema (with_tile (box q) t) h == 0 then None else Some (RowOut.Area t (total schema (with_tile (box q) t) h))

  -- row i, from 0, of a series of rows of so many bins: its first bin, and the total of its bins
  abbrev pub bins_row : ℕ → ℕ → ℕ → RowOut
  bins_row from wide i = RowOut.Bin (from + i * wide) (total schema (with_bins (box q) (from + i * wide) (from + (i + 1) * wide)) h)

  -- the rows that a verb asks for
  abbrev pub rows_of_verb : Verb → List RowOut
  rows_of_verb Count = RowOut.One (total schema (box q) h) ∷ []
  rows_of_verb (Hist k) = map (value_row k) (range_with_len 0 (length (values_at schema.categories k)))
  rows_of_verb (Map down) = filter_map area_row (tiles_below down q.region)
  rows_of_verb (Series from wide rows) = map (bins_row from wide) (range_with_len 0 rows)
  rows_of_verb (Window rect) = RowOut.One (window_total q rect h) ∷ []
  rows_of_verb (Cross k l) = cross_rows schema q h k l
  rows_of_verb (Best down rows) = top_rows schema q h down rows
  rows_of_verb Stat = []
  rows_of_verb Told = []
  rows_of_verb Quit = []

  -- the rows of the query
  unfoldable pub table_rows : List RowOut
  table_rows = rows_of_verb q.verb

  -- the table of the query: its rows, and how many points the list has
  unfoldable pub table : Table
  table = record { rows = table_rows; seen = length h }
