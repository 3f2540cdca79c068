-- Ranges of points, and points of a depth.
use Rattle.std.specs.Prelude.{ℕ, ◌-◌, ◌^◌, ◌<◌, ◌≤◌, List, All, length, take, drop}
use Rattle.cube_view.specs.Points.{Point}
use Rattle.flat_view.specs.declared.ranges.Range.{Range}

-- each point's finest tile is one of that depth
abbrev pub AreOfDepth : ℕ → List Point → Type 0
AreOfDepth depth points = All (λ p. (p.spot.x < 2 ^ depth) × (p.spot.y < 2 ^ depth)) points

-- the range is one of the list's places
abbrev pub IsRangeOf : List Point → Range → Type 0
IsRangeOf points range = (range.from ≤ range.to) × (range.to ≤ length points)

-- the points of the range
abbrev pub points_of_range : Range → List Point → List Point
points_of_range range points = take (range.to - range.from) (drop range.from points)
