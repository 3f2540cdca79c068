-- What is known of the slots that are written.
use Rattle.std.specs.Prelude.{◌≡◌, ℕ, ◌<◌, List, length, Some}
use Rattle.cube_view.specs.Walks.{Step, down, Walk}
use Rattle.node_arena.specs.declared.link.Link.{Link}
use Rattle.node_arena.specs.Shape.{HasHomes}
use Rattle.node_arena.specs.Slots.{target, Slot, link_of}
use Rattle.node_arena.specs.Stats.{AllRising}

-- the slots have homes: proper links lead from the root to each of them
pub record HasSomeHomes (slots : List Slot) : Type 0 where
  pub homes : List Walk
  pub has_homes : HasHomes slots homes

-- each label is a byte
abbrev pub HasByteLabels : List Slot → Type 0
HasByteLabels slots = (i label : ℕ) (l : Link) → link_of slots i (down label) ≡ Some l → label < 256

-- the slots can be read one by one: labels rise, and each link leads to a slot
pub record IsReadable (slots : List Slot) : Type 0 where
  pub rising : AllRising slots
  pub targets : (i : ℕ) (e : Step) (l : Link) → link_of slots i e ≡ Some l → target l < length slots

-- the slots can be put: each has a number in the order, and can be read
pub record CanPut (slots : List Slot) (numbers : List ℕ) : Type 0 where
  pub numbered : length numbers ≡ length slots
  pub readable : IsReadable slots
