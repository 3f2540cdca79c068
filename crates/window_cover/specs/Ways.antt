-- What a walk down from a tile comes to: it ends at tiles inside the rectangle.
use Rattle.std.specs.Prelude.{◌≡◌, ℕ, zero, suc, ◌+◌, ◌-◌, Bool, ◌&&◌, IsTrue, if◌then◌else◌, List, [], ◌∷◌}
use Rattle.std.specs.List.{flat_map, sum_by}
use Rattle.cube_view.specs.Bag.{EachCounted}
use Rattle.cube_view.specs.Costs.{ViewCosts, is_found}
use Rattle.cube_view.specs.Places.{in_tile, region_address}
use Rattle.cube_view.specs.Points.{Point}
use Rattle.cube_view.specs.declared.address.Address.{Address}
use Rattle.cube_view.specs.declared.address.Tile.{Tile}
use Rattle.cube_view.specs.declared.schema.Schema.{Schema}
use Rattle.cube_view.specs.declared.spot.Spot.{Spot}
use Rattle.query_syntax.specs.TileOrder.{quadrants}
use Rattle.query_syntax.specs.Tiles.{is_tile}
use Rattle.query_syntax.specs.Windows.{is_asked, is_in_window}
use Rattle.query_syntax.specs.declared.query.Query.{Query}
use Rattle.query_syntax.specs.declared.rect.Rect.{Rect}
use Rattle.query_walk.specs.Walks.{HasBox}
use Rattle.window_cover.specs.Costs.{crossed_cost, tile_cost}
use Rattle.window_cover.specs.Covers.{tiles_from}
use Rattle.window_cover.specs.Rects.{is_inside}

-- the tile, if it lies inside the rectangle, else what its quadrants have so many levels further down
abbrev pub cover_below : ℕ → Rect → ℕ → Tile → List Tile
cover_below depth r zero t = if is_inside depth r t then t ∷ [] else []
cover_below depth r (suc levels) t = if is_inside depth r t then t ∷ [] else flat_map (cover_below depth r levels) (quadrants t)

-- the same, down to the finest tiles
abbrev pub cover_inside : ℕ → Rect → Tile → List Tile
cover_inside depth r t = cover_below depth r (depth - t.z) t

-- the spot is in the tile, and the query asks for it
abbrev pub is_asked_in : ℕ → Query → Tile → Spot → Bool
is_asked_in depth q t s = in_tile depth t s && is_asked q s

-- the spot is in the tile, and one of the window
abbrev pub is_window_in : ℕ → Query → Rect → Tile → Spot → Bool
is_window_in depth q r t s = in_tile depth t s && is_in_window q r s

module _ (costs : ViewCosts) (schema : Schema) (h : List Point) where
  -- a window in a tile and so many levels below it: the tiles that the rectangle crosses, and those of the cover
  abbrev pub below_cost : Query → Rect → ℕ → Tile → ℕ
  below_cost q r levels t = sum_by (crossed_cost costs schema h r) (tiles_from levels t) + sum_by (tile_cost costs schema h q) (cover_below schema.depth r levels t)

  -- the same, down to the finest tiles
  abbrev pub inside_cost : Query → Rect → Tile → ℕ
  inside_cost q r t = below_cost q r (schema.depth - t.z) t

-- A walk for the query has come to the tile, in a view that gives spots `weight_at` and is of `seen` points.
pub record HasComeTo (weight_at : Spot → ℕ) (seen : ℕ) (schema : Schema) (q : Query) (address : Address) (t : Tile) : Type 0 where
  -- the query's box can be walked
  pub has_box : HasBox schema q
  -- the tile is one of the schema
  pub tile : IsTrue (is_tile schema.depth t)
  -- the walk stands at the tile's address
  pub place : address ≡ region_address t
  -- each list that the view counts has a spot in the tile, or this is all of space
  pub found : EachCounted weight_at seen (λ h. IsTrue (is_found schema h t))
