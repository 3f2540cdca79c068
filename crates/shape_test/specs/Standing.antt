-- What is tested of single slots: where they stand, and what they need there.
use Rattle.std.specs.Prelude.{◌≡◌, ℕ, ◌<◌, ◌⊎◌, ◌==◌, List, length, Option, Some, None}
use Rattle.cube_view.specs.Places.{deepest, time_dim}
use Rattle.cube_view.specs.Walks.{Walk}
use Rattle.cube_view.specs.declared.schema.Schema.{Schema}
use Rattle.node_arena.specs.Shape.{home_of}
use Rattle.node_arena.specs.Slots.{Slot, IsNode, IsTable, slot_of}
use Rattle.shape_test.specs.Sharing.{SharesAt}
use Rattle.shape_test.specs.Agreeing.{MergesFrom}
use Rattle.shape_test.specs.Filled.{HasRow, IsFilledNode}
use Rattle.shape_test.specs.Links.{LinksFit}
use Rattle.shape_test.specs.Places.{place_at}
use Rattle.shape_test.specs.declared.place.Place.{Place}

-- a time table stands where time is, and has a row
pub record TableStands (schema : Schema) (slots : List Slot) (i : ℕ) (p : Place) : Type 0 where
  pub table : IsTable (slot_of slots i)
  pub time : p.dim ≡ time_dim schema
  pub row : HasRow slots i

-- a node stands before time, has its links, and shares an only child's content
pub record NodeStands (schema : Schema) (slots : List Slot) (i : ℕ) (p : Place) : Type 0 where
  pub node : IsNode (slot_of slots i)
  pub before : p.dim ≡ time_dim schema → ⊥
  pub filled : IsFilledNode slots i (p.level == deepest schema p.dim)
  pub shares : SharesAt slots i

-- the slot is what stands at the place
abbrev pub SuitsPlace : Schema → List Slot → ℕ → Place → Type 0
SuitsPlace schema slots i p = TableStands schema slots i p ⊎ NodeStands schema slots i p

-- A slot stands where a cube's may, and has what it needs there. What it counts is left aside.
pub record SlotStands (schema : Schema) (slots : List Slot) (homes : List Walk) (i : ℕ) : Type 0 where
  -- its home is an address of the schema
  pub place : Place
  pub at : place_at schema (home_of homes i) ≡ Some place
  -- it is what stands there
  pub suits : SuitsPlace schema slots i place
  -- each of its links leads to a slot whose home is the link's address or finer
  pub links : LinksFit slots homes i

-- so all slots stand
abbrev pub AllStand : Schema → List Slot → List Walk → Type 0
AllStand schema slots homes = (i : ℕ) → i < length slots → SlotStands schema slots homes i

-- what a slot counts merges, if it has a place
abbrev pub MergesAt : Schema → List Slot → ℕ → Option Place → Type 0
MergesAt schema slots i None = ⊥
MergesAt schema slots i (Some p) = MergesFrom schema slots i p

-- what all slots count merges
abbrev pub AllMerge : Schema → List Slot → List Walk → Type 0
AllMerge schema slots homes = (i : ℕ) → i < length slots → MergesAt schema slots i (place_at schema (home_of homes i))
