-- The contents of children, which are looked at as the parts of a whole, and what they count along ways on from them.
use Rattle.std.specs.Prelude.{◌≡◌, ℕ, ◌<◌, ◌≤◌, List, [], ◌∷◌, ◌++◌, length, Option, Some, None, All, option_to_list, sum_by}
use Rattle.std.specs.List.Sorted.{IsNonDecreasingBy, IsPermutation}
use Rattle.cube_view.specs.Walks.{across}
use Rattle.node_arena.specs.declared.link.Link.{Link}
use Rattle.node_arena.specs.Slots.{Children, IsRising, Slot, target, children_of, slot_of, link_of}
use Rattle.probe_core.specs.Places.{IsPlace}
use Rattle.shape_test.specs.Agreeing.{IsOver, value_levels}
use Rattle.shape_test.specs.Ways.{Way, count_below}
use Rattle.shape_test.specs.declared.parts.Part.{Part}

-- the label of a part, by which parts are ordered
abbrev pub part_label : Part → ℕ
part_label p = p.label

-- the slot of a part
abbrev pub part_slot : Part → ℕ
part_slot p = p.content.0

-- the slot that a link leads to as a part, if there is a link
abbrev pub link_part : ℕ → Option Link → Option Part
link_part label None = None
link_part label (Some l) = Some (record { label = label; content = l.to })

-- the content of a slot as a part, if it has one
abbrev pub content_part : List Slot → ℕ → ℕ → Option Part
content_part slots label i = link_part label (link_of slots i across)

-- the contents of children, each with the child's label
abbrev pub parts_in : List Slot → Children → List Part
parts_in slots [] = []
parts_in slots (c ∷ children) = option_to_list (content_part slots c.0 (target c.1)) ++ parts_in slots children

-- the contents of a slot's children
abbrev pub parts_of : List Slot → ℕ → List Part
parts_of slots i = parts_in slots (children_of (slot_of slots i))

-- the contents of the children of all parts
abbrev pub parts_under : List Slot → List Part → List Part
parts_under slots [] = []
parts_under slots (p ∷ parts) = parts_of slots (part_slot p) ++ parts_under slots parts

-- the parts are slots of the arena
abbrev pub ArePartsIn : List Slot → List Part → Type 0
ArePartsIn slots parts = All (λ p. part_slot p < length slots) parts

-- the labels of each part's children rise
abbrev pub HaveRising : List Slot → List Part → Type 0
HaveRising slots parts = All (λ p. IsRising (children_of (slot_of slots (part_slot p)))) parts

-- The parts are the contents of the children of others, in order of label.
pub record AreUnder (slots : List Slot) (parts below : List Part) : Type 0 where
  pub same : IsPermutation (parts_under slots parts) below
  pub ordered : IsNonDecreasingBy part_label below
  pub within : ArePartsIn slots below
  -- no part has two children of one label
  pub rising : HaveRising slots parts

-- what parts count together along a way, in a bin
abbrev pub count_along : List Slot → List Part → Way → ℕ → ℕ
count_along slots parts way bin = sum_by (λ p. count_below slots (part_slot p) way bin) parts

-- along all ways over n categories parts count in each bin what others count
abbrev pub PartsAgree : List Slot → List Part → List Part → ℕ → Type 0
PartsAgree slots whole parts n = (way : Way) → IsOver (value_levels n) way → (bin : ℕ) → count_along slots whole way bin ≡ count_along slots parts way bin

-- both lists have come to a label: parts of lesser labels stand before the places
pub record HaveCome (from : ℕ) (own : List Part) (i : ℕ) (below : List Part) (at : ℕ) : Type 0 where
  pub own_place : IsPlace part_label from own i
  pub below_place : IsPlace part_label from below at

-- A label of a part of either list, from one on: no part has one between.
pub record IsLeastLabel (from : ℕ) (own : List Part) (i : ℕ) (below : List Part) (at : ℕ) (label : ℕ) : Type 0 where
  pub low : from ≤ label
  pub come : HaveCome label own i below at
