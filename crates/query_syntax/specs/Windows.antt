-- What a window counts: the points of a query whose finest tiles are in a rectangle.
use Rattle.std.specs.Prelude.{ℕ, Bool, ◌&&◌, nat_le, nat_lt, List, map}
use Rattle.cube_view.specs.Bag.{amount}
use Rattle.cube_view.specs.declared.spot.Point.{Point}
use Rattle.cube_view.specs.declared.spot.Spot.{Spot}
use Rattle.query_syntax.specs.Boxes.{chosen, are_in_sets}
use Rattle.query_syntax.specs.declared.query.Query.{Query}
use Rattle.query_syntax.specs.declared.rect.Rect.{Rect}

-- the finest tile of this column and row is in the rectangle
abbrev pub has_place : Rect → ℕ → ℕ → Bool
has_place r x y = (nat_le r.x0 x && nat_lt x r.x1) && (nat_le r.y0 y && nat_lt y r.y1)

-- the spot's values are in the query's sets, and its bin is in the query's span
abbrev pub is_asked : Query → Spot → Bool
is_asked q s = are_in_sets (map chosen q.sets) s.values && (nat_le q.time.from s.bin && nat_lt s.bin q.time.to)

-- the spot is one of the window: its finest tile is in the rectangle, and the query asks for it
abbrev pub is_in_window : Query → Rect → Spot → Bool
is_in_window q r s = has_place r s.x s.y && is_asked q s

-- how much of the list of points is in the window
unfoldable pub window_total : Query → Rect → List Point → ℕ
window_total q r h = amount (is_in_window q r) h
