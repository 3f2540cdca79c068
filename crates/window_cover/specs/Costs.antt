-- How many steps a window takes at most, by the costs that a view gives its addresses and the list that it counts.
use Rattle.std.specs.Prelude.{ℕ, ◌+◌, ◌*◌, ◌&&◌, nat_lt, List, length, take}
use Rattle.std.specs.List.{sum_by}
use Rattle.cube_view.specs.Costs.{ViewCosts, is_found, cost_if, after_space_cost}
use Rattle.cube_view.specs.Places.{region_address}
use Rattle.cube_view.specs.Points.{Point}
use Rattle.cube_view.specs.declared.address.Address.{Address}
use Rattle.cube_view.specs.declared.address.Tile.{Tile}
use Rattle.cube_view.specs.declared.schema.Schema.{Schema}
use Rattle.query_syntax.specs.Addresses.{addresses}
use Rattle.query_syntax.specs.Parts.{with_region}
use Rattle.query_syntax.specs.declared.query.Query.{Query}
use Rattle.query_syntax.specs.declared.query.Verb.{Verb}
use Rattle.query_syntax.specs.declared.query.Verb.TheVariants.{Count, Hist, Map, Series, Window, Cross, Best, Stat, Told, Quit}
use Rattle.query_syntax.specs.declared.rect.Rect.{Rect}
use Rattle.window_cover.specs.Covers.{all_tiles, cover}
use Rattle.window_cover.specs.Rects.{is_crossed}

module _ (costs : ViewCosts) (schema : Schema) (h : List Point) where
  -- the walk to an address of time, from its tile on: that to the address without the downs in space
  abbrev pub from_tile_cost : Address → ℕ
  from_tile_cost a = after_space_cost costs schema h (take (length schema.categories) a.values) a.tile

  -- the cost of each of the query's addresses with that tile as region, without the downs in space, if the walk comes
  -- to the tile
  abbrev pub tile_cost : Query → Tile → ℕ
  tile_cost q t = cost_if (is_found schema h t) (sum_by from_tile_cost (addresses schema (with_region q t)))

  -- four downs from a tile that the rectangle crosses, if the walk comes to the tile
  abbrev pub crossed_cost : Rect → Tile → ℕ
  crossed_cost r t = cost_if (is_crossed schema.depth r t && is_found schema h t) (4 * costs.down_cost (region_address t))

  -- a rectangle: the tiles that it crosses, and those of its cover; nothing in a view of no points
  abbrev pub rect_cost : Query → Rect → ℕ
  rect_cost q r = cost_if (nat_lt 0 (length h)) (sum_by (crossed_cost r) (all_tiles schema.depth) + sum_by (tile_cost q) (cover schema.depth r))

  -- the window of a verb; another verb has none
  abbrev pub window_cost : Query → Verb → ℕ
  window_cost q Count = 0
  window_cost q (Hist k) = 0
  window_cost q (Map down) = 0
  window_cost q (Series from wide rows) = 0
  window_cost q (Window rect) = rect_cost q rect
  window_cost q (Cross k l) = 0
  window_cost q (Best down rows) = 0
  window_cost q Stat = 0
  window_cost q Told = 0
  window_cost q Quit = 0
