-- What reading an image answers.
use Rattle.std.specs.Prelude.{◌≡◌, ℕ, ◌<◌, ◌≤◌, List, length, Result, Ok, Err}
use Rattle.cube_image.specs.Image.{IsImageOf, most_bytes}
use Rattle.cube_view.specs.declared.schema.Schema.{Schema}
use Rattle.image_parse.specs.Images.{IsImage, IsNoImage}
use Rattle.image_cube.specs.declared.fault.ImageFault.{ImageFault}
use Rattle.image_cube.specs.declared.fault.ImageFault.TheVariants.{TooLong, NotImage, NotShape, NoMemory}
use Rattle.node_arena.specs.declared.link.SlotId.{SlotId}
use Rattle.node_arena.specs.Slots.{Slot}
use Rattle.shape_test.specs.Fits.{Fits}

-- slots, a root and a size, as they are read
abbrev pub ReadSlots : Type 0
ReadSlots = List Slot × SlotId × ℕ

-- The bytes are the image of the slots with the size, and these fit the schema.
pub record IsFitImage (schema : Schema) (bytes : List ℕ) (slots : List Slot) (size : ℕ) : Type 0 where
  pub short : length bytes ≤ most_bytes
  pub image : IsImage bytes size slots
  -- in the words of the image's writer, so that writing them gives the bytes again
  pub written : IsImageOf slots size bytes
  pub fits : Fits schema slots size

-- The bytes are an image of slots that don't fit the schema with its size.
pub record IsUnfitImage (schema : Schema) (bytes : List ℕ) : Type 0 where
  pub short : length bytes ≤ most_bytes
  pub size : ℕ
  pub slots : List Slot
  pub image : IsImage bytes size slots
  pub unfit : Fits schema slots size → ⊥

-- why bytes are refused; bytes have one meaning as an image at most, so no two faults but for memory hold of them
abbrev pub Refuses : Schema → List ℕ → ImageFault → Type 0
Refuses schema bytes TooLong = most_bytes < length bytes
Refuses schema bytes NotImage = (length bytes ≤ most_bytes) × IsNoImage bytes
Refuses schema bytes NotShape = IsUnfitImage schema bytes
Refuses schema bytes NoMemory = length bytes ≤ most_bytes

-- What reading bytes answers: the slots with root 0 and the size, or why they are refused
abbrev pub ReadsImage : Schema → List ℕ → Result ReadSlots ImageFault → Type 0
ReadsImage schema bytes (Ok x) = (x.1.0 ≡ 0) × IsFitImage schema bytes x.0 x.2
ReadsImage schema bytes (Err fault) = Refuses schema bytes fault

-- what is answered of the slots of an image: themselves with root 0 and their size, or that they don't fit the schema
abbrev pub FitsSlots : Schema → List Slot → ℕ → Result ReadSlots ImageFault → Type 0
FitsSlots schema slots size (Ok x) = (x.0 ≡ slots) × (x.1.0 ≡ 0) × (x.2 ≡ size) × Fits schema slots size
FitsSlots schema slots size (Err NotShape) = Fits schema slots size → ⊥
FitsSlots schema slots size (Err NoMemory) = Unit {0}
FitsSlots schema slots size (Err TooLong) = ⊥
FitsSlots schema slots size (Err NotImage) = ⊥
