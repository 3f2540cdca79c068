-- Which lists of points a cube counts.
use Rattle.std.specs.Prelude.{◌≡◌, ℕ, ◌+◌, IsTrue, List, All, length}
use Rattle.cube_view.specs.Bag.{CountsMore}
use Rattle.cube_view.specs.Places.{time_dim}
use Rattle.cube_view.specs.Points.{Point, spot_of}
use Rattle.cube_view.specs.Validity.{sound}
use Rattle.cube_view.specs.Walks.{Walk}
use Rattle.cube_view.specs.declared.schema.Schema.{Schema}
use Rattle.least_cube.specs.Least.{IsLeast}
use Rattle.node_arena.specs.Amounts.{spots_in}
use Rattle.node_arena.specs.Shape.{HasShape}
use Rattle.node_arena.specs.Slots.{Slot}
use Rattle.proper_path.specs.Paths.{paths_of}

-- The slots count the points of a list h.
pub record CountsPoints (schema : Schema) (slots : List Slot) (root size : ℕ) (h : List Point) : Type 0 where
  -- there are homes with which the slots have the shape of a cube of these points
  pub homes : List Walk
  pub shape : HasShape (time_dim schema) slots homes (paths_of schema h)
  -- the root is the first slot
  pub at_top : root ≡ 0
  -- each point is sound for the schema and has four values, and there are as many as the size says
  pub all_sound : All (λ p. IsTrue (sound schema p)) h
  pub all_four : All (λ p. length (spot_of p).values ≡ 4) h
  pub number : size ≡ length h

-- The slots count the points of the list, and no other cube of them has fewer slots.
pub record CountsLeast (schema : Schema) (slots : List Slot) (root size : ℕ) (h : List Point) : Type 0 where
  pub counts : CountsPoints schema slots root size h
  pub least : IsLeast slots counts.homes (spots_in (paths_of schema h))

-- some list is counted
abbrev pub HasPoints : Schema → List Slot → ℕ → ℕ → Type 0
HasPoints schema slots root size = ∥ ((h : List Point) × CountsPoints schema slots root size h) ∥₁

-- each list of so many points that the old slots count gives one with these points behind it, which the new slots count
abbrev pub AddsPoints : Schema → ℕ → ℕ → List Point → List Slot → List Slot → Type 0
AddsPoints schema root size points old new = CountsMore (CountsPoints schema old root size) (CountsPoints schema new root (size + length points)) points

-- so it is with the lists of which the old slots are the least ones
abbrev pub AddsLeast : Schema → ℕ → ℕ → List Point → List Slot → List Slot → Type 0
AddsLeast schema root size points old new = CountsMore (CountsLeast schema old root size) (CountsLeast schema new root (size + length points)) points

-- points go as a group, and not by the five cases of a single point: the list has none or several, or a batch has
-- several
abbrev pub GoAsGroup : Schema → List Point → Type 0
GoAsGroup schema points = length points ≡ 1 → schema.batch ≡ 1 → ⊥
