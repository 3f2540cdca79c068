-- How many levels an address has left.
use Rattle.std.specs.Prelude.{◌≡◌, ℕ, zero, suc, ◌-◌, ◌<◌, List, [], ◌∷◌, map, length, slice_index, Option, Some, None}
use Rattle.cube_view.specs.Walks.{Step, down, across, Walk, SpotPath}

-- how many levels are left of a dimension, and how many the later dimensions have
pub record Levels : Type 0 where
  pub rest : ℕ
  pub later : List ℕ

-- a level less
abbrev pub level_down : ℕ → List ℕ → Option Levels
level_down zero later = None
level_down (suc n) later = Some (record { rest = n; later = later })

-- the next dimension
abbrev pub level_across : List ℕ → Option Levels
level_across [] = None
level_across (n ∷ later) = Some (record { rest = n; later = later })

-- after one step
abbrev pub level_step : Step → Levels → Option Levels
level_step (down l) c = level_down c.rest c.later
level_step across c = level_across c.later

-- after one step, where there were levels so far
abbrev pub then_level : Option Levels → Step → Option Levels
then_level None e = None
then_level (Some c) e = level_step e c

-- what is left at an address, where the levels of all dimensions are given; None where the address goes past them
abbrev pub left : List ℕ → Walk → Option Levels
left levels [] = level_across levels
left levels (e ∷ a) = then_level (left levels a) e

-- nothing is left
abbrev pub no_levels : Levels
no_levels = record { rest = 0; later = [] }

-- how many labels a spot has in each dimension
abbrev pub label_counts : SpotPath → List ℕ
label_counts q = map (λ path. length path) q.paths

-- There are as many levels as dimensions, of which time, the last, has 0.
pub record EndsWithTime (dims : ℕ) (levels : List ℕ) : Type 0 where
  pub size : length levels ≡ dims
  pub some : 0 < dims
  pub last : slice_index levels (dims - 1) ≡ 0
