-- The order in which an image has the slots: the root, and then the targets of proper links as they appear.
use Rattle.std.specs.Prelude.{◌≡◌, ℕ, ◌<◌, ◌++◌, ◌==◌, if◌then◌else◌, List, [], ◌∷◌, length, map, slice_index, Option, Some, None}
use Rattle.std.specs.List.{flat_map, position_or_len, range_with_len}
use Rattle.node_arena.specs.declared.link.Link.{Link}
use Rattle.node_arena.specs.Slots.{id_of, target, Children, Slot, node, table, slot_of}
use Rattle.node_arena.specs.Stats.{is_proper}
use Rattle.cube_image.specs.Rest.{byte_children}

-- where a link leads, if it is proper
abbrev pub proper_target : Link → List ℕ
proper_target l = if is_proper l then target l ∷ [] else []

-- where the proper links of children lead
abbrev pub owned_children : Children → List ℕ
owned_children children = flat_map (λ c. proper_target c.1) children

-- where the link to a content leads, if it is proper
abbrev pub owned_content : Option Link → List ℕ
owned_content None = []
owned_content (Some l) = proper_target l

-- where the proper links of a slot lead, as they appear in it
abbrev pub owned_by : Slot → List ℕ
owned_by (node children content) = owned_children (byte_children children) ++ owned_content content
owned_by (table counts) = []

-- the places of the slots: the root's, and then those that the slots own, in this order
abbrev pub IsOrder : List Slot → List ℕ → Type 0
IsOrder slots places = places ≡ 0 ∷ flat_map (λ i. owned_by (slot_of slots i)) places

-- the slots stand in an image's order: the root and the targets of proper links, as they appear, are the numbers from 0
-- on
abbrev pub IsNumbered : List Slot → Type 0
IsNumbered slots = 0 ∷ flat_map owned_by slots ≡ range_with_len 0 (length slots)

-- where the slot of a place stands in the order
abbrev pub order_number : List ℕ → ℕ → ℕ
order_number places i = position_or_len (λ place. place == i) places

-- the link to where its target stands in the order
abbrev pub moved_link : List ℕ → Link → Link
moved_link places l = record { to = id_of (order_number places (target l)); kind = l.kind }

-- the same of a child
abbrev pub moved_child : List ℕ → ℕ × Link → ℕ × Link
moved_child places c = (c.0, moved_link places c.1)

-- the same of a content
abbrev pub moved_content : List ℕ → Option Link → Option Link
moved_content places None = None
moved_content places (Some l) = Some (moved_link places l)

-- the slot with its links to where their targets stand in the order
abbrev pub moved : List ℕ → Slot → Slot
moved places (node children content) = node (map (moved_child places) children) (moved_content places content)
moved places (table counts) = table counts

-- the slots in the order
abbrev pub in_order : List Slot → List ℕ → List Slot
in_order slots places = map (λ i. moved places (slot_of slots i)) places

-- each number is where the slot of its place stands in the order
abbrev pub AreNumbers : List ℕ → List ℕ → Type 0
AreNumbers places numbers = (i : ℕ) → i < length numbers → slice_index numbers i ≡ order_number places i
