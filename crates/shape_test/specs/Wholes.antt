-- Whole addresses, and the list of spots that the time tables at them count.
use Rattle.std.specs.Prelude.{◌≡◌, ℕ, zero, suc, ◌<◌, Bool, true, false, ◌&&◌, ◌==◌, if◌then◌else◌, List, [], ◌∷◌, ◌++◌, map, length, Option, Some, None, Contains, All}
use Rattle.std.specs.FinMap.{entries}
use Rattle.cube_view.specs.Walks.{down, across, Walk, SpotPath}
use Rattle.node_arena.specs.Amounts.{Weighted, spots_in}
use Rattle.node_arena.specs.Shape.{home_of, HasShape}
use Rattle.node_arena.specs.Slots.{Slot, slot_of, counts_of}
use Rattle.shape_test.specs.Levels.{Levels, left, label_counts}

-- no level is left of the dimension
abbrev pub is_deepest : Option Levels → Bool
is_deepest None = false
is_deepest (Some c) = c.rest == 0

-- the address goes to the deepest level of each dimension that it has left behind
abbrev pub is_whole : List ℕ → Walk → Bool
is_whole levels [] = true
is_whole levels (down l ∷ a) = is_whole levels a
is_whole levels (across ∷ a) = is_whole levels a && is_deepest (left levels a)

-- the labels of an address, dimension by dimension, before labels of its last dimension and later dimensions
abbrev pub paths_along : Walk → List ℕ → List (List ℕ) → List (List ℕ)
paths_along [] path later = path ∷ later
paths_along (down l ∷ a) path later = paths_along a (l ∷ path) later
paths_along (across ∷ a) path later = paths_along a [] (path ∷ later)

-- the spot at a whole address and in a bin, with an amount
abbrev pub spot_at : Walk → ℕ × ℕ → Weighted
spot_at a e = record { spot = record { paths = paths_along a [] []; bin = e.0 }; amount = e.1 }

-- the rows of a slot at an address, if that is whole
abbrev pub rows_at : List ℕ → Walk → Slot → List Weighted
rows_at levels a s = if is_whole levels a then map (spot_at a) (entries (counts_of s)) else []

-- the rows of the first n slots
abbrev pub spelled_rows : List ℕ → List Slot → List Walk → ℕ → List Weighted
spelled_rows levels slots homes zero = []
spelled_rows levels slots homes (suc n) = spelled_rows levels slots homes n ++ rows_at levels (home_of homes n) (slot_of slots n)

-- the spots that the tables at whole addresses count: the bag of the slots
abbrev pub spelled_bag : List ℕ → List Slot → List Walk → List Weighted
spelled_bag levels slots homes = spelled_rows levels slots homes (length slots)

-- The slots have the shape of a cube of spots of those levels, each with an amount.
pub record IsCubeOf (dims : ℕ) (levels : List ℕ) (slots : List Slot) (homes : List Walk) (h : List Weighted) : Type 0 where
  pub shape : HasShape dims slots homes h
  pub lengths : (q : SpotPath) → Contains (spots_in h) q → label_counts q ≡ levels
  pub amounts : All (λ w. 0 < w.amount) h
