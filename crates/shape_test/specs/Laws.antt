-- What the conditions on slots say of the shape of a cube, and of a schema's cubes.
use Rattle.std.specs.Prelude.{ℕ, List, All, ◌↔◌, ◌≡◌}
use Rattle.cube_view.specs.Walks.{Walk}
use Rattle.cube_view.specs.declared.schema.Schema.{Schema}
use Rattle.node_arena.specs.Amounts.{Weighted}
use Rattle.node_arena.specs.Shape.{HasProperLinks}
use Rattle.node_arena.specs.Slots.{Slot, counts_of}
use Rattle.node_arena.specs.Stats.{AllRising}
use Rattle.time_table.specs.Counts.{AllCounted}
use Rattle.shape_test.specs.Fits.{IsSchemaCube, IsSchemaLocal, slots_bag}
use Rattle.shape_test.specs.Levels.{EndsWithTime}
use Rattle.shape_test.specs.Local.{IsLocal}
use Rattle.shape_test.specs.Wholes.{spelled_bag, IsCubeOf}

-- no table has a row without a record
abbrev pub AllTablesCounted : List Slot → Type 0
AllTablesCounted slots = All (λ s. AllCounted (counts_of s)) slots

-- slots of which the conditions hold are a cube of their own bag
abbrev pub TellsCube : Type 0
TellsCube = (dims : ℕ) (levels : List ℕ) (slots : List Slot) (homes : List Walk) → EndsWithTime dims levels → AllTablesCounted slots → IsLocal dims levels slots homes → IsCubeOf dims levels slots homes (spelled_bag levels slots homes)

-- of a cube, whatever it counts, the conditions hold
abbrev pub TellsLocal : Type 0
TellsLocal = (dims : ℕ) (levels : List ℕ) (slots : List Slot) (homes : List Walk) (h : List Weighted) → EndsWithTime dims levels → AllRising slots → IsCubeOf dims levels slots homes h → IsLocal dims levels slots homes

-- the conditions hold exactly of a cube of the slots' own bag
abbrev pub DecidesCube : Type 0
DecidesCube = (schema : Schema) (slots : List Slot) (homes : List Walk) → AllTablesCounted slots → AllRising slots → IsSchemaCube schema slots homes (slots_bag schema slots homes) ↔ IsSchemaLocal schema slots homes

-- a cube of any spots is one of its own bag
abbrev pub OwnsBag : Type 0
OwnsBag = (schema : Schema) (slots : List Slot) (homes : List Walk) (h : List Weighted) → AllTablesCounted slots → AllRising slots → IsSchemaCube schema slots homes h → IsSchemaCube schema slots homes (slots_bag schema slots homes)

-- slots have homes in one way
abbrev pub OneHomes : Type 0
OneHomes = (slots : List Slot) (homes again : List Walk) → HasProperLinks slots homes → HasProperLinks slots again → homes ≡ again
