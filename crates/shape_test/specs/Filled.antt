-- What single slots have below them.
use Rattle.std.specs.Prelude.{◌≡◌, ℕ, ◌<◌, ◌^◌, ◌⊎◌, Bool, false, List, None}
use Rattle.cube_view.specs.Walks.{Step, down, across}
use Rattle.node_arena.specs.Shape.{IsLinked}
use Rattle.node_arena.specs.Slots.{Slot, slot_of, link_of, count}

-- each bin has 32 bits, as the calls of a table can tell it
abbrev pub HasSmallBins : List Slot → Type 0
HasSmallBins slots = (i bin : ℕ) → 0 < count (slot_of slots i) bin → bin < 2 ^ 32

-- some record is counted in a bin
pub record HasRow (slots : List Slot) (i : ℕ) : Type 0 where
  pub bin : ℕ
  pub some : 0 < count (slot_of slots i) bin

-- a child is there
pub record HasChild (slots : List Slot) (i : ℕ) : Type 0 where
  pub label : ℕ
  pub linked : IsLinked slots i (down label)

-- no link is there
abbrev pub IsBare : List Slot → ℕ → Type 0
IsBare slots i = (e : Step) → link_of slots i e ≡ None

-- a node has a content and, unless it is at its dimension's deepest level, a child; only a root may have no link
abbrev pub IsFilledNode : List Slot → ℕ → Bool → Type 0
IsFilledNode slots i is_deepest = ((i ≡ 0) × IsBare slots i) ⊎ (IsLinked slots i across × (is_deepest ≡ false → HasChild slots i))
