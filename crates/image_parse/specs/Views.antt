-- What functions return, as it is read.
use Rattle.std.specs.Prelude.{◌≡◌, ℕ, ◌≤◌, ◌^◌, Bool, true, false, List, [], ◌∷◌, ◌++◌, Option, Some, None, Result, Ok, Err}
use Rattle.std.specs.FinMap.{from_sorted}
use Rattle.node_arena.specs.Slots.{Children, Slot, node, table}
use Rattle.node_arena.specs.Calls.{with_slot}
use Rattle.time_table.specs.Rows.{AreRows, row_total}
use Rattle.image_parse.specs.Images.{AreChildren, AllLight}
use Rattle.image_parse.specs.Reading.{Linked}
use Rattle.image_parse.specs.declared.fault.ImageParseFault.{ImageParseFault}
use Rattle.image_parse.specs.declared.fault.ImageParseFault.TheVariants.{NotImage, NoMemory}
use Rattle.image_parse.specs.declared.image.ParsedImage.{ParsedImage}
use Rattle.image_parse.specs.declared.slots.ParsedSlot.{ParsedSlot}
use Rattle.image_parse.specs.declared.slots.Room.{Room}
use Rattle.image_parse.specs.declared.slots.ParsedSlot.TheVariants.{Node, Table}

-- a fault comes where nothing is read, or for want of memory
abbrev pub Fails : {Y : Type 0} → ImageParseFault → Option Y → Type 0
Fails NotImage read = read ≡ None
Fails NoMemory read = Unit {0}

-- what was returned is what is read, unless memory was wanted
abbrev pub Gives : {X Y : Type 0} → (X → Y) → Result X ImageParseFault → Option Y → Type 0
Gives view (Ok x) read = read ≡ Some (view x)
Gives view (Err fault) read = Fails fault read

-- the slot that was parsed, whose children or rows are in a room
abbrev pub slot_parsed : Room → ParsedSlot → Slot
slot_parsed room (Node content) = node room.children.items content
slot_parsed room Table = table (from_sorted room.rows.items)

-- children that an image may have
pub record AreImageChildren (children : Children) : Type 0 where
  pub number : ℕ
  pub fit : AreChildren number 0 children

-- a slot that was parsed is one that an image may have
abbrev pub IsParsed : Room → ParsedSlot → Type 0
IsParsed room (Node content) = AreImageChildren room.children.items
IsParsed room Table = AreRows 0 room.rows.items

-- what an arena keeps of light slots; none is kept of others
abbrev pub kept_if : Bool → List Slot → Option (List Slot)
kept_if true arena = Some arena
kept_if false arena = None

-- An arena has a table of rows more, which one can hold.
pub record IsLightTable (old new : List Slot) (rows : List (ℕ × ℕ)) : Type 0 where
  pub put : new ≡ with_slot old (table (from_sorted rows))
  pub light : row_total rows ≤ 2 ^ 63

-- an arena keeps the slots; none is kept where a table is too heavy for one
abbrev pub KeepsLight : Option (List Slot) → List Slot → Type 0
KeepsLight None slots = ¬ AllLight slots
KeepsLight (Some kept) slots = (kept ≡ slots) × AllLight slots

-- a slot more is kept, or none is kept
abbrev pub KeepsOneMore : Option (List Slot) → Option (List Slot) → Slot → Type 0
KeepsOneMore kept now s = (slots : List Slot) → KeepsLight kept slots → KeepsLight now (slots ++ s ∷ [])

-- slots that were read are kept
pub record HasSlots (read : Option (Linked (List Slot))) (kept : Option (List Slot)) (next : ℕ) (rest : List ℕ) : Type 0 where
  pub slots : List Slot
  pub read_is : read ≡ Some (slots, next, rest)
  pub keeps : KeepsLight kept slots

-- an image that was read is kept with its size
abbrev pub KeepsImage : Option ParsedImage → ℕ → List Slot → Type 0
KeepsImage None size slots = ¬ AllLight slots
KeepsImage (Some found) size slots = (found.size ≡ size) × (found.arena ≡ slots) × AllLight slots

-- an image was read, and is kept
pub record HasImage (read : Option (ℕ × List Slot)) (kept : Option ParsedImage) : Type 0 where
  pub size : ℕ
  pub slots : List Slot
  pub read_is : read ≡ Some (size, slots)
  pub keeps : KeepsImage kept size slots
