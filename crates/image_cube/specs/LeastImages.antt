-- Which bytes are the image of the least cube of points.
use Rattle.std.specs.Prelude.{◌≡◌, ℕ, List, length}
use Rattle.std.specs.List.Sorted.{IsPermutation}
use Rattle.cube_view.specs.Points.{Point}
use Rattle.cube_view.specs.declared.schema.Schema.{Schema}
use Rattle.node_arena.specs.Slots.{Slot}
use Rattle.node_arena.specs.Stats.{AllRising}
use Rattle.cube_store.specs.Counted.{CountsLeast}
use Rattle.cube_image.specs.Image.{IsImageOf}
use Rattle.shape_test.specs.Laws.{AllTablesCounted}

-- The slots are the least cube of the points, as an arena holds it.
pub record AreLeastSlots (schema : Schema) (slots : List Slot) (h : List Point) : Type 0 where
  pub least : CountsLeast schema slots 0 (length h) h
  -- the children of each node stand in rising order of label
  pub rising : AllRising slots
  -- no table has a row without a record
  pub counted : AllTablesCounted slots

-- Two schemas have the same space and categories: the same points make the same cubes, whatever the batches are.
pub record HaveSameForm (schema other : Schema) : Type 0 where
  pub depth : other.depth ≡ schema.depth
  pub categories : other.categories ≡ schema.categories

-- The bytes are the image of the least cube of the points.
pub record IsLeastImage (schema : Schema) (bytes : List ℕ) (h : List Point) : Type 0 where
  -- there is such a cube
  pub slots : List Slot
  pub least : AreLeastSlots schema slots h
  -- and the bytes are the image of each one, in whatever order the points came to it
  pub each : (other : Schema) (again : List Slot) (k : List Point) → HaveSameForm schema other → IsPermutation h k → AreLeastSlots other again k → IsImageOf again (length k) bytes

-- the images of the least cubes of the same points are the same bytes, in whatever order these came
abbrev pub TellsOneFile : Type 0
TellsOneFile = (schema other : Schema) (bytes bytes' : List ℕ) (h k : List Point) → HaveSameForm schema other → IsPermutation h k → IsLeastImage schema bytes h → IsLeastImage other bytes' k → bytes ≡ bytes'
