-- What is known of images.
use Rattle.std.specs.Prelude.{◌≡◌, ℕ, List, All}
use Rattle.time_table.specs.Counts.{AllCounted}
use Rattle.node_arena.specs.Slots.{Slot, counts_of}
use Rattle.cube_image.specs.Conditions.{IsReadable}
use Rattle.cube_image.specs.Image.{IsImageOf}
use Rattle.image_parse.specs.Images.{IsImage}

-- bytes are the image of one list of slots with one size at most
abbrev pub TellsOneMeaning : Type 0
TellsOneMeaning = (bytes : List ℕ) (size again : ℕ) (slots others : List Slot)
    → IsImage bytes size slots → IsImage bytes again others → (size ≡ again) × (slots ≡ others)

-- The slots of an image are orderly.
pub record IsOrderly (bytes : List ℕ) (size : ℕ) (slots : List Slot) : Type 0 where
  -- labels rise, and each link leads to a slot
  pub readable : IsReadable slots
  -- no table has a row without a record
  pub counted : All (λ s. AllCounted (counts_of s)) slots
  -- the bytes are their image, in the words of its writer
  pub image : IsImageOf slots size bytes

-- the slots of an image are orderly
abbrev pub TellsOrderly : Type 0
TellsOrderly = (bytes : List ℕ) (size : ℕ) (slots : List Slot) → IsImage bytes size slots → IsOrderly bytes size slots
