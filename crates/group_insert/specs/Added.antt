-- What a time table takes of points.
use Rattle.std.specs.Prelude.{◌≡◌, ℕ, ◌+◌, ◌<◌, ◌≤◌, ◌==◌, if◌then◌else◌, List, length, take, sum_by}
use Rattle.time_table.specs.Counts.{IsBinRun, amount_at, run_total}
use Rattle.cube_view.specs.Points.{Point, spot_of, weight_of_point}

-- how much the points weigh that have the bin, and how much all of them
abbrev pub amount_in : List Point → ℕ → ℕ
amount_in points bin = sum_by (λ p. if (spot_of p).bin == bin then weight_of_point p else 0) points

abbrev pub part_weight : List Point → ℕ
part_weight points = sum_by (λ p. weight_of_point p) points

-- the points from one place to another have one bin, and weigh n together
pub record IsOneBin (part : List Point) (from to bin n : ℕ) : Type 0 where
  pub further : from < to
  pub within : to ≤ length part
  pub some : 0 < n
  pub amounts : (b : ℕ) → amount_in (take from part) b + (if bin == b then n else 0) ≡ amount_in (take to part) b
  pub total : part_weight (take from part) + n ≡ part_weight (take to part)

-- a run has the weights of the points from one place to another
pub record IsRunOf (part : List Point) (from to : ℕ) (run : List (ℕ × ℕ)) : Type 0 where
  pub further : from < to
  pub within : to ≤ length part
  pub rising : IsBinRun run
  pub amounts : (b : ℕ) → amount_in (take from part) b + amount_at b run ≡ amount_in (take to part) b
  pub total : part_weight (take from part) + run_total run ≡ part_weight (take to part)
