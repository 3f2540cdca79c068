-- Which bytes are an image, and of which slots with which size.
use Rattle.std.specs.Prelude.{◌≡◌, ℕ, ◌+◌, ◌<◌, ◌≤◌, ◌^◌, List, [], ◌∷◌, length, Option, IfSome}
use Rattle.std.specs.FinMap.{entries}
use Rattle.std.specs.List.{AllByRecursion}
use Rattle.node_arena.specs.declared.link.Link.{Link}
use Rattle.node_arena.specs.Slots.{target, Children, Slot, node, table, counts_of}
use Rattle.time_table.specs.Counts.{total_count}
use Rattle.time_table.specs.Rows.{AreRows}
use Rattle.cube_image.specs.Bytes.{image_bytes}
use Rattle.cube_image.specs.Order.{IsNumbered}

-- children whose labels are bytes and rise from a number on, and whose links lead to slots, of which there are n
abbrev pub AreChildren : ℕ → ℕ → Children → Type 0
AreChildren n from [] = Unit {0}
AreChildren n from (c ∷ children) = (from ≤ c.0) × (c.0 < 256) × (target c.1 < n) × AreChildren n (c.0 + 1) children

-- the link to a content leads to one of n slots, if there is a content
abbrev pub IsContent : ℕ → Option Link → Type 0
IsContent n content = IfSome content (λ l. target l < n)

-- a slot that an image of n slots may have
abbrev pub IsImageSlot : ℕ → Slot → Type 0
IsImageSlot n (node children content) = AreChildren n 0 children × IsContent n content
IsImageSlot n (table counts) = AreRows 0 (entries counts)

-- The bytes are the image of the slots, which stand in its order, with a size.
pub record IsImage (bytes : List ℕ) (size : ℕ) (slots : List Slot) : Type 0 where
  -- both numbers of the head have 64 bits
  pub size_fits : size < 2 ^ 64
  pub number_fits : length slots < 2 ^ 64
  -- labels, bins, counts and targets are those of an image
  pub fit : AllByRecursion (IsImageSlot (length slots)) slots
  -- the targets of proper links, as they appear, are 1, 2, 3 and so on up to the last slot
  pub numbered : IsNumbered slots
  -- the slots and the size as bytes
  pub text : bytes ≡ image_bytes size slots

-- no table counts more than 2^63 records, which is what one can hold
abbrev pub AllLight : List Slot → Type 0
AllLight slots = AllByRecursion (λ s. total_count (counts_of s) ≤ 2 ^ 63) slots

-- The bytes are an image, and no table of it counts more than one can hold.
pub record IsLightImage (bytes : List ℕ) (size : ℕ) (slots : List Slot) : Type 0 where
  pub image : IsImage bytes size slots
  pub light : AllLight slots

-- The bytes are an image of which a table counts more than 2^63 records.
pub record IsHeavyImage (bytes : List ℕ) : Type 0 where
  pub size : ℕ
  pub slots : List Slot
  pub image : IsImage bytes size slots
  pub heavy : ¬ AllLight slots

-- the bytes are the image of no slots with no size
abbrev pub IsNoImage : List ℕ → Type 0
IsNoImage bytes = (size : ℕ) (slots : List Slot) → IsImage bytes size slots → ⊥
