-- Whole addresses, and the lists of spots that slots count there, one after another.
use Rattle.std.proofs.Common.{◌≡◌, ℕ, zero, suc, ◌<◌, List, [], ◌∷◌, ◌++◌, length, Some, Contains}
use Rattle.cube_view.specs.Walks.{down, across, Walk, SpotPath, Under}
use Rattle.node_arena.specs.Amounts.{Weighted, spots_in, amount_under}
use Rattle.node_arena.specs.Shape.{home_of}
use Rattle.node_arena.specs.Slots.{Slot, IsTable, slot_of, count}
use Rattle.shape_test.specs.Levels.{left}

-- the address goes to the deepest level of each dimension that it has left behind
abbrev pub IsWhole : List ℕ → Walk → Type 0
IsWhole levels [] = Unit {0}
IsWhole levels (down l ∷ a) = IsWhole levels a
IsWhole levels (across ∷ a) = IsWhole levels a × (later : List ℕ) × (left levels a ≡ Some (record { rest = 0; later = later }))

-- the lists of the first n slots
abbrev pub joined : (ℕ → List Weighted) → ℕ → List Weighted
joined f zero = []
joined f (suc n) = joined f n ++ f n

-- the rows of a slot are the spots that it counts, where it is a time table at a whole address, and none otherwise
pub record ListsRows (levels : List ℕ) (slots : List Slot) (homes : List Walk) (rows : ℕ → List Weighted) : Type 0 where
  pub counts : (i bin : ℕ) → i < length slots → IsTable (slot_of slots i) → IsWhole levels (home_of homes i) → count (slot_of slots i) bin ≡ amount_under (rows i) (home_of homes i) bin
  pub own : (i : ℕ) (q : SpotPath) → i < length slots → Contains (spots_in (rows i)) q → (a : Walk) → IsWhole levels a → left levels a ≡ Some (record { rest = 0; later = [] }) → Under q a → a ≡ home_of homes i
