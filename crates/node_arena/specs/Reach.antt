-- The shape in the words of walks from the root, as laws; and what a cube counts.
use Rattle.std.specs.Prelude.{◌≡◌, ℕ, ◌<◌, List, [], ◌∷◌, length, Option, Some, None, Contains}
use Rattle.cube_view.specs.Walks.{Step, Walk, SpotPath, HasSpot, IsCoarser, Under, whole}
use Rattle.node_arena.specs.Amounts.{Weighted, spots_in, amount_under}
use Rattle.node_arena.specs.Slots.{Slot, IsTable, slot_of, count, walk_end}
use Rattle.node_arena.specs.Shape.{home_of, IsShaped}

-- each address at which a slot is reached is coarser than its home
abbrev pub AreCoarser : List Slot → List Walk → Type 0
AreCoarser slots homes = (a : Walk) (i : ℕ) → walk_end slots 0 a ≡ Some i → IsCoarser a (home_of homes i)

-- From the root a slot's home leads to the slot; each address at which it is reached is coarser than
-- its home, and the spots under the address lie under the home.
pub record ReachesHomes (slots : List Slot) (homes : List Walk) (h : List SpotPath) : Type 0 where
  pub at_home : (i : ℕ) → i < length slots → walk_end slots 0 (home_of homes i) ≡ Some i
  pub coarser : AreCoarser slots homes
  pub agrees : (a : Walk) (i : ℕ) → walk_end slots 0 a ≡ Some i → (q : SpotPath) → Contains h q → Under q a → Under q (home_of homes i)

-- a slot is reached at the address
pub record IsReached (slots : List Slot) (a : Walk) : Type 0 where
  pub slot : ℕ
  pub is : walk_end slots 0 a ≡ Some slot

-- An address below the top is reached exactly where a spot lies under it, and the top always is.
pub record ReachesSpots (slots : List Slot) (h : List SpotPath) : Type 0 where
  pub top : walk_end slots 0 [] ≡ Some 0
  pub reached : (a : Walk) → HasSpot h a → IsReached slots a
  pub only : (a : Walk) (e : Step) → IsReached slots (e ∷ a) → HasSpot h (e ∷ a)

-- A time table that is reached at an address counts the amounts under the address, bin by bin.
pub record CountsReached (slots : List Slot) (h : List Weighted) : Type 0 where
  pub counts : (a : Walk) (i bin : ℕ) → walk_end slots 0 a ≡ Some i → IsTable (slot_of slots i) → count (slot_of slots i) bin ≡ amount_under h a bin

-- the shape, said of walks
pub record IsWalked (slots : List Slot) (homes : List Walk) (h : List Weighted) : Type 0 where
  pub homes_reached : ReachesHomes slots homes (spots_in h)
  pub spots_reached : ReachesSpots slots (spots_in h)
  pub counted : CountsReached slots h

-- a shape says what walks reach
abbrev pub TellsWalks : Type 0
TellsWalks = (dims : ℕ) (slots : List Slot) (homes : List Walk) (h : List Weighted) → IsShaped dims slots homes h → IsWalked slots homes h

-- how many records the slot counts in the bin, if there is one
abbrev pub count_reached : List Slot → Option ℕ → ℕ → ℕ
count_reached slots None bin = 0
count_reached slots (Some i) bin = count (slot_of slots i) bin

-- how much the cube counts at a spot: what its whole walk finds in its bin
abbrev pub weight_at : List Slot → SpotPath → ℕ
weight_at slots q = count_reached slots (walk_end slots 0 (whole q)) q.bin

-- a shape counts at a spot as much as the list has under its whole walk in its bin
abbrev pub TellsWeights : Type 0
TellsWeights = (dims : ℕ) (slots : List Slot) (homes : List Walk) (h : List Weighted) → IsShaped dims slots homes h → (q : SpotPath) → 0 < dims → length q.paths ≡ dims → weight_at slots q ≡ amount_under h (whole q) q.bin
