-- Least cubes of one bag have one image.
use Rattle.std.specs.Prelude.{◌≡◌, ℕ, List, All}
use Rattle.cube_view.specs.Walks.{Walk}
use Rattle.time_table.specs.Counts.{AllCounted}
use Rattle.node_arena.specs.Amounts.{Weighted, spots_in, amount_under}
use Rattle.node_arena.specs.Slots.{Slot, counts_of}
use Rattle.node_arena.specs.Stats.{AllRising}
use Rattle.node_arena.specs.Shape.{HasShape}
use Rattle.least_cube.specs.Least.{HaveSameSpots, IsLeast}
use Rattle.cube_image.specs.Image.{IsImageOf}

-- The slots are the least cube of the list, as an arena holds it.
pub record IsLeastCube (dims : ℕ) (slots : List Slot) (homes : List Walk) (h : List Weighted) : Type 0 where
  pub shape : HasShape dims slots homes h
  pub least : IsLeast slots homes (spots_in h)
  -- the children of each node stand in rising order of label
  pub rising : AllRising slots
  -- no table has a row without a record
  pub counted : All (λ s. AllCounted (counts_of s)) slots

-- The lists are one bag: they have the same spots, and weigh the same at each address in each bin.
pub record AreOneBag (h h' : List Weighted) : Type 0 where
  pub spots : HaveSameSpots h h'
  pub weigh : (a : Walk) (bin : ℕ) → amount_under h a bin ≡ amount_under h' a bin

-- an image of one least cube of a bag, with a size, is one of each other
abbrev pub TellsSharedImage : Type 0
TellsSharedImage = (dims : ℕ) (slots slots' : List Slot) (homes homes' : List Walk) (h h' : List Weighted) → IsLeastCube dims slots homes h → IsLeastCube dims slots' homes' h' → AreOneBag h h' → (size : ℕ) (bytes : List ℕ) → IsImageOf slots size bytes → IsImageOf slots' size bytes

-- two least cubes of one bag have one image with a size
abbrev pub TellsOneLeastImage : Type 0
TellsOneLeastImage = (dims : ℕ) (slots slots' : List Slot) (homes homes' : List Walk) (h h' : List Weighted) → IsLeastCube dims slots homes h → IsLeastCube dims slots' homes' h' → AreOneBag h h' → (size : ℕ) (bytes bytes' : List ℕ) → IsImageOf slots size bytes → IsImageOf slots' size bytes' → bytes ≡ bytes'
