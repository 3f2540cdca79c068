-- Spots with the amounts that a cube counts at them.
use Rattle.std.specs.Prelude.{ℕ, ◌&&◌, ◌==◌, if◌then◌else◌, List, map, sum_by}
use Rattle.cube_view.specs.Walks.{Walk, SpotPath, under}

-- an amount at a spot, as a point has its weight
pub record Weighted : Type 0 where
  pub spot : SpotPath
  pub amount : ℕ

-- the spots of a list
abbrev pub spots_in : List Weighted → List SpotPath
spots_in h = map (λ w. w.spot) h

-- how much of the list lies under the address and has the bin
abbrev pub amount_under : List Weighted → Walk → ℕ → ℕ
amount_under h walk bin = sum_by (λ w. if (under w.spot walk && (w.spot.bin == bin)) then w.amount else 0) h
