-- The cover of a rectangle: its largest tiles.
use Rattle.std.specs.Prelude.{◌≡◌, ℕ, zero, suc, ◌-◌, ◌<◌, ◌≤◌, ◌^◌, Bool, true, not, ◌&&◌, ◌||◌, ◌==◌, IsTrue, List, [], ◌∷◌, length, filter, count_by}
use Rattle.std.specs.List.{flat_map, list_all, list_any}
use Rattle.cube_view.specs.Places.{tile_at}
use Rattle.cube_view.specs.declared.address.Tile.{Tile}
use Rattle.query_syntax.specs.Queries.{whole_space}
use Rattle.query_syntax.specs.TileOrder.{quadrants, tiles_inside, tiles_of_level}
use Rattle.query_syntax.specs.Tiles.{is_tile}
use Rattle.query_syntax.specs.declared.rect.Rect.{Rect}
use Rattle.query_syntax.specs.Windows.{has_place}
use Rattle.window_cover.specs.Rects.{holds, is_inside}

-- a tile and those inside it down to so many levels below it, in path order: a tile comes before those inside it
abbrev pub tiles_from : ℕ → Tile → List Tile
tiles_from zero t = t ∷ []
tiles_from (suc levels) t = t ∷ flat_map (tiles_from levels) (quadrants t)

-- all tiles of a schema in path order
unfoldable pub all_tiles : ℕ → List Tile
all_tiles depth = tiles_from depth whole_space

-- the tile that has the tile as one of its quadrants
abbrev pub parent : Tile → Tile
parent t = tile_at t (t.z - 1)

-- the tile lies inside the rectangle, and the tile that it is a quadrant of doesn't, if it is one of any
abbrev pub is_largest : ℕ → Rect → Tile → Bool
is_largest depth r t = is_inside depth r t && ((t.z == 0) || not (is_inside depth r (parent t)))

-- the cover: of all tiles in path order the largest ones inside the rectangle
unfoldable pub cover : ℕ → Rect → List Tile
cover depth r = filter (is_largest depth r) (all_tiles depth)

-- some tile of the list holds the finest tile of this column and row
abbrev pub has_holder : ℕ → List Tile → ℕ → ℕ → Bool
has_holder depth tiles x y = list_any (λ t. holds depth t x y) tiles

-- the finest tiles that a tile holds, in path order
abbrev pub finest_tiles : ℕ → Tile → List Tile
finest_tiles depth t = tiles_inside (depth - t.z) t

-- the tiles lie inside the rectangle, and together they hold all its finest tiles
pub record FillsRect (depth : ℕ) (r : Rect) (tiles : List Tile) : Type 0 where
  pub inside : IsTrue (list_all (λ t. is_tile depth t && is_inside depth r t) tiles)
  pub holders : (x y : ℕ) → has_place r x y ≡ true → has_holder depth tiles x y ≡ true

-- what makes tiles the least cover of a rectangle
pub record IsLeastCover (depth : ℕ) (r : Rect) (tiles : List Tile) : Type 0 where
  -- no two of them hold the same finest tile
  pub apart : (x y : ℕ) → count_by (λ t. holds depth t x y) tiles ≤ 1
  -- a finest tile is in the rectangle exactly where one of them holds it
  pub exact : (x y : ℕ) → x < 2 ^ depth → y < 2 ^ depth → has_place r x y ≡ has_holder depth tiles x y
  -- one tile after the other, their finest tiles are those of the rectangle in path order
  pub order : flat_map (finest_tiles depth) tiles ≡ filter (λ f. has_place r f.x f.y) (tiles_of_level depth)
  -- each list of tiles that fills the rectangle is as long or longer
  pub fewest : (others : List Tile) → FillsRect depth r others → length tiles ≤ length others
