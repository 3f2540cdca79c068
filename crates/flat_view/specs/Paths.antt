-- The order of finest tiles along one path through space, in which the places of each tile stand side by side.
use Rattle.std.specs.Prelude.{◌≡◌, ℕ, zero, suc, ◌+◌, ◌*◌, ◌/◌, ◌%◌, ◌<◌, List, slice_index}
use Rattle.cube_view.specs.Points.{Point}

-- the number of a column and a row by their last so many levels: the quadrant labels of the way there as digits of base
-- 4, the coarsest first
unfoldable pub path_number : ℕ → ℕ → ℕ → ℕ
path_number zero x y = 0
path_number (suc levels) x y = 4 * path_number levels (x / 2) (y / 2) + (2 * (y % 2) + x % 2)

-- the number of a point's finest tile, by the most levels that a schema has
abbrev pub point_number : Point → ℕ
point_number p = path_number 20 p.spot.x p.spot.y

-- the list has, at each place under 1,024, the place's bits as digits of base 4
abbrev pub AreDigits : List ℕ → Type 0
AreDigits digits = (n : ℕ) → n < 1024 → slice_index digits n ≡ path_number 10 n 0
