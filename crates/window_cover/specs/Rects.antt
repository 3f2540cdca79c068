-- What a rectangle of finest tiles has of a tile.
use Rattle.std.specs.Prelude.{ℕ, ◌+◌, ◌-◌, ◌*◌, ◌^◌, Bool, not, ◌&&◌, ◌==◌, nat_le, nat_lt}
use Rattle.cube_view.specs.Places.{shifted}
use Rattle.cube_view.specs.declared.address.Tile.{Tile}
use Rattle.query_syntax.specs.declared.rect.Rect.{Rect}

-- the tile holds the finest tile of this column and row
abbrev pub holds : ℕ → Tile → ℕ → ℕ → Bool
holds depth t x y = (shifted depth t.z x == t.x) && (shifted depth t.z y == t.y)

-- the rectangle of the finest tiles that a tile holds
abbrev pub tile_rect : ℕ → Tile → Rect
tile_rect depth t = record { x0 = t.x * 2 ^ (depth - t.z); y0 = t.y * 2 ^ (depth - t.z); x1 = (t.x + 1) * 2 ^ (depth - t.z); y1 = (t.y + 1) * 2 ^ (depth - t.z) }

-- the second rectangle is inside the first
abbrev pub contains : Rect → Rect → Bool
contains a b = (nat_le a.x0 b.x0 && nat_le b.x1 a.x1) && (nat_le a.y0 b.y0 && nat_le b.y1 a.y1)

-- some number is from the first bound on under the second, and from the third on under the fourth
abbrev pub overlap : ℕ → ℕ → ℕ → ℕ → Bool
overlap a b c d = (nat_lt a b && nat_lt a d) && (nat_lt c b && nat_lt c d)

-- some finest tile is in both rectangles
abbrev pub meets : Rect → Rect → Bool
meets a b = overlap a.x0 a.x1 b.x0 b.x1 && overlap a.y0 a.y1 b.y0 b.y1

-- the tile lies inside the rectangle
abbrev pub is_inside : ℕ → Rect → Tile → Bool
is_inside depth r t = contains r (tile_rect depth t)

-- some of the tile's finest tiles are in the rectangle, and some are not
abbrev pub is_crossed : ℕ → Rect → Tile → Bool
is_crossed depth r t = meets r (tile_rect depth t) && not (is_inside depth r t)
