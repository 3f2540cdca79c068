-- What makes slots a cube, said of each slot by itself: no spot is named.
use Rattle.std.specs.Prelude.{◌≡◌, ℕ, suc, ◌<◌, List, ◌∷◌, length, Some}
use Rattle.cube_view.specs.Walks.{Walk}
use Rattle.node_arena.specs.Shape.{home_of, HasHomes, HasTables, SharesOnlyContent}
use Rattle.node_arena.specs.Slots.{Slot, IsTable, slot_of}
use Rattle.node_arena.specs.Stats.{AllRising}
use Rattle.shape_test.specs.Levels.{Levels, left, no_levels}
use Rattle.shape_test.specs.Ways.{Way, IsFinest, Merges, count_below}

-- something is left at an address
pub record HasLevels (levels : List ℕ) (a : Walk) : Type 0 where
  pub levels_left : Levels
  pub is : left levels a ≡ Some levels_left

-- along some finest way from the slot there is a count
pub record HasCountBelow (levels : List ℕ) (slots : List Slot) (homes : List Walk) (j : ℕ) : Type 0 where
  pub way : Way
  pub bin : ℕ
  pub finest : (c : Levels) → left levels (home_of homes j) ≡ Some c → IsFinest c.rest c.later way
  pub some : 0 < count_below slots j way bin

-- no home goes past the levels
abbrev pub AllHaveLevels : List ℕ → List Slot → List Walk → Type 0
AllHaveLevels levels slots homes = (i : ℕ) → i < length slots → HasLevels levels (home_of homes i)

-- below each slot but the root there is a count
abbrev pub AllHaveCounts : List ℕ → List Slot → List Walk → Type 0
AllHaveCounts levels slots homes = (j : ℕ) → 0 < j → j < length slots → HasCountBelow levels slots homes j

-- along finest ways each content counts what the contents of the children count together
abbrev pub AllContentsMerge : List ℕ → List Slot → List Walk → Type 0
AllContentsMerge levels slots homes = (i n m : ℕ) (later : List ℕ) → left levels (home_of homes i) ≡ Some (record { rest = suc n; later = m ∷ later }) → (way : Way) → IsFinest m later way → (bin : ℕ) → Merges slots i way bin

-- The conditions on slots whose homes are given, where the dimensions have those levels.
pub record IsLocal (dims : ℕ) (levels : List ℕ) (slots : List Slot) (homes : List Walk) : Type 0 where
  -- proper links lead to each home, shared ones from coarser addresses; time tables are where time is
  pub has_homes : HasHomes slots homes
  pub has_tables : HasTables dims slots homes
  -- no home goes past the levels, and a time table's goes through all
  pub within : AllHaveLevels levels slots homes
  pub at_time : (i : ℕ) → i < length slots → IsTable (slot_of slots i) → left levels (home_of homes i) ≡ Some no_levels
  -- below each slot but the root there is a count
  pub filled : AllHaveCounts levels slots homes
  -- a node with one child shares its content
  pub shares : SharesOnlyContent slots
  -- labels rise
  pub rising : AllRising slots
  -- along finest ways each content counts what the contents of the children count together
  pub merges : AllContentsMerge levels slots homes
