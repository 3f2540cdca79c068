-- The image of an arena's slots.
use Rattle.std.specs.Prelude.{◌≡◌, ℕ, ◌<◌, ◌≤◌, ◌^◌, List, length}
use Rattle.node_arena.specs.Slots.{Slot}
use Rattle.cube_image.specs.Bytes.{image_bytes}
use Rattle.cube_image.specs.Order.{IsOrder, in_order}

-- The bytes are the image of the slots, with a size.
pub record IsImageOf (slots : List Slot) (size : ℕ) (bytes : List ℕ) : Type 0 where
  -- the order of the slots
  pub places : List ℕ
  pub ordered : IsOrder slots places
  -- the slots in this order, as bytes
  pub text : bytes ≡ image_bytes size (in_order slots places)

-- the most bytes that an image has
abbrev pub most_bytes : ℕ
most_bytes = 2 ^ 30

-- the bytes are the image, and not too many
pub record IsWritten (slots : List Slot) (size : ℕ) (bytes : List ℕ) : Type 0 where
  pub image : IsImageOf slots size bytes
  pub fits : length bytes ≤ most_bytes

-- the image of the slots has too many bytes
pub record HasLongImage (slots : List Slot) (size : ℕ) : Type 0 where
  pub bytes : List ℕ
  pub image : IsImageOf slots size bytes
  pub long : most_bytes < length bytes
