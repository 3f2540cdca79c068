-- What is known of the image of a cube.
use Rattle.std.specs.Prelude.{◌≡◌, ℕ, List, length}
use Rattle.cube_view.specs.declared.schema.Schema.{Schema}
use Rattle.node_arena.specs.Slots.{Slot}
use Rattle.cube_store.specs.Counted.{HasPoints}
use Rattle.node_arena.specs.Stats.{AllRising}
use Rattle.cube_image.specs.Conditions.{HasSomeHomes, IsReadable}
use Rattle.cube_image.specs.Bytes.{image_bytes}
use Rattle.cube_image.specs.Image.{IsImageOf}
use Rattle.cube_image.specs.Order.{IsOrder, IsNumbered, in_order}

-- the slots meet the conditions of writing them
pub record CanWrite (slots : List Slot) (root : ℕ) : Type 0 where
  pub at_top : root ≡ 0
  pub homes : ∥ HasSomeHomes slots ∥₁

-- the slots of a cube do
abbrev pub TellsWritable : Type 0
TellsWritable = (schema : Schema) (slots : List Slot) (root size : ℕ) → HasPoints schema slots root size → CanWrite slots root

-- slots with homes have one image with a size
abbrev pub TellsOneImage : Type 0
TellsOneImage = (slots : List Slot) → HasSomeHomes slots → AllRising slots → (size : ℕ) (bytes again : List ℕ) → IsImageOf slots size bytes → IsImageOf slots size again → bytes ≡ again

-- in its image the targets of proper links are numbered as they appear
abbrev pub TellsNumbers : Type 0
TellsNumbers = (slots : List Slot) → HasSomeHomes slots → AllRising slots → (places : List ℕ) → IsOrder slots places → IsNumbered (in_order slots places)

-- the image of a cube has as many slots as the cube
abbrev pub TellsWhole : Type 0
TellsWhole = (schema : Schema) (slots : List Slot) (root size : ℕ) → HasPoints schema slots root size → AllRising slots → (places : List ℕ) → IsOrder slots places → length (in_order slots places) ≡ length slots

-- slots that are numbered as they appear stand in the order of their image
abbrev pub TellsOwnImage : Type 0
TellsOwnImage = (slots : List Slot) → IsReadable slots → IsNumbered slots → (size : ℕ) → IsImageOf slots size (image_bytes size slots)
