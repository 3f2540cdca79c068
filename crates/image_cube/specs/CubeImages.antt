-- Which bytes are the image of a cube of points, and what making a cube of bytes answers.
use Rattle.std.specs.Prelude.{◌≡◌, ◌<◌, ◌^◌, ◌↔◌, ℕ, IsTrue, List, All, length, Result, Ok, Err}
use Rattle.cube_view.specs.Points.{Point, spot_of}
use Rattle.cube_view.specs.Validity.{valid}
use Rattle.cube_view.specs.declared.schema.Schema.{Schema}
use Rattle.node_arena.specs.Slots.{Slot}
use Rattle.node_arena.specs.Stats.{stat_of}
use Rattle.cube_store.specs.Counted.{CountsPoints}
use Rattle.cube_store.specs.Holding.{CubeCounts}
use Rattle.cube_store.specs.declared.cube.Cube.{Cube}
use Rattle.cube_image.specs.Image.{HasLongImage}
use Rattle.image_cube.specs.Read.{IsFitImage, Refuses}
use Rattle.image_cube.specs.declared.fault.ImageFault.{ImageFault}

-- Points that records of the schema can be, in bins of 32 bits.
pub record AreRecords (schema : Schema) (h : List Point) : Type 0 where
  pub valid_points : All (λ p. IsTrue (valid schema p)) h
  pub small_bins : All (λ p. (spot_of p).bin < 2 ^ 32) h

-- The bytes are the image of a cube of the points.
pub record IsCubeImage (schema : Schema) (bytes : List ℕ) (h : List Point) : Type 0 where
  pub slots : List Slot
  -- they are the image of slots that fit the schema, with as many points
  pub fit : IsFitImage schema bytes slots (length h)
  -- and the slots count the points
  pub counted : CountsPoints schema slots 0 (length h) h

-- The image of a cube of the points has more bytes than an image may have.
pub record HasLongCubeImage (schema : Schema) (h : List Point) : Type 0 where
  pub slots : List Slot
  pub counted : CountsPoints schema slots 0 (length h) h
  pub long : HasLongImage slots (length h)

-- The cube is the one of which the bytes are the image.
pub record IsCubeOfImage (schema : Schema) (bytes : List ℕ) (cube : Cube) : Type 0 where
  pub of_schema : cube.schema ≡ schema
  -- its slots and its size are those of the image
  pub fit : IsFitImage schema bytes cube.arena cube.size
  -- so it counts exactly the lists of points of whose cubes the bytes are the image
  pub counts : (h : List Point) → CubeCounts cube h ↔ IsCubeImage schema bytes h

-- what making a cube of bytes answers: the cube, or why they are refused
abbrev pub LoadsCube : Schema → List ℕ → Result Cube ImageFault → Type 0
LoadsCube schema bytes (Ok cube) = IsCubeOfImage schema bytes cube
LoadsCube schema bytes (Err fault) = Refuses schema bytes fault

-- whatever slots the bytes are the image of, their numbers are those of the given ones
abbrev pub KeepsNumbers : List ℕ → Schema → List Slot → Type 0
KeepsNumbers bytes schema slots = (again : List Slot) (size : ℕ) → IsFitImage schema bytes again size → stat_of again ≡ stat_of slots

-- The bytes are the image of a cube of each list of records that the cube counts, and keep its numbers.
abbrev pub IsSavedCube : Cube → List ℕ → Type 0
IsSavedCube cube bytes = (h : List Point) → CubeCounts cube h → AreRecords cube.schema h → IsCubeImage cube.schema bytes h × KeepsNumbers bytes cube.schema cube.arena
