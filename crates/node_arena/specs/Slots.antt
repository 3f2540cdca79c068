-- What contracts see of an arena: the list of its slots, and where walks along their links lead.
use Rattle.std.specs.Prelude.{◌≡◌, ℕ, ◌<◌, Bool, true, false, ◌==◌, if◌then◌else◌, List, [], ◌∷◌, slice_index_or, Option, Some, None, AllPairs}
use Rattle.std.specs.Coded.{Coded, coded_ℕ}
use Rattle.std.specs.FinMap.{empty, code}
use Rattle.time_table.specs.Counts.{BinCounts, count_of}
use Rattle.node_arena.specs.declared.link.SlotId.{SlotId}
use Rattle.node_arena.specs.declared.link.Link.{Link}
use Rattle.node_arena.specs.declared.link.LinkKind.TheVariants.{Proper, Shared}
use Rattle.cube_view.specs.Walks.{Step, down, across, Walk}

-- the name of the slot at a place
abbrev pub id_of : ℕ → SlotId
id_of i = record { 0 = i }

-- a proper link to the slot at a place
abbrev pub proper : ℕ → Link
proper to = record { to = id_of to; kind = Proper }

-- a shared link to the slot at a place
abbrev pub shared : ℕ → Link
shared to = record { to = id_of to; kind = Shared }

-- the place of the slot that the link leads to
abbrev pub target : Link → ℕ
target l = l.to.0

-- the children of a node: their labels and links
abbrev pub Children : Type 0
Children = List (ℕ × Link)

-- the label of a child, by which children are ordered and searched
abbrev pub child_label : ℕ × Link → ℕ
child_label c = c.0

-- the labels rise, so no label stands twice
abbrev pub IsRising : Children → Type 0
IsRising children = AllPairs (λ (a b : ℕ × Link). a.0 < b.0) children

-- a node has children and perhaps a content; a time table has its counts
pub data Slot : Type 0 where
  node : Children → Option Link → Slot
  table : BinCounts → Slot

-- counts are stored as their entries
abbrev pub counts_code : Coded BinCounts
counts_code = code coded_ℕ coded_ℕ

-- a node without children or content
abbrev pub empty_node : Slot
empty_node = node [] None

-- the slot is a time table
abbrev pub is_table : Slot → Bool
is_table (node children content) = false
is_table (table counts) = true

-- the slot is a node
abbrev pub IsNode : Slot → Type 0
IsNode s = is_table s ≡ false

-- the slot is a time table
abbrev pub IsTable : Slot → Type 0
IsTable s = is_table s ≡ true

-- the children of a node; a time table has none
abbrev pub children_of : Slot → Children
children_of (node children content) = children
children_of (table counts) = []

-- the content of a node; a time table has none
abbrev pub content_of : Slot → Option Link
content_of (node children content) = content
content_of (table counts) = None

-- the counts of a time table; a node has none
abbrev pub counts_of : Slot → BinCounts
counts_of (node children content) = empty
counts_of (table counts) = counts

-- how many records a slot counts in a bin
abbrev pub count : Slot → ℕ → ℕ
count s bin = count_of (counts_of s) bin

-- the slot at a place
abbrev pub slot_of : List Slot → ℕ → Slot
slot_of slots i = slice_index_or slots i empty_node

-- the link of the child at a label
abbrev pub child : Children → ℕ → Option Link
child [] l = None
child (k ∷ children) l = if k.0 == l then Some k.1 else child children l

-- the link that a step goes along
abbrev pub link : Slot → Step → Option Link
link (node children content) (down l) = child children l
link (node children content) across = content
link (table counts) e = None

-- the link that a step goes along from the slot at a place
abbrev pub link_of : List Slot → ℕ → Step → Option Link
link_of slots i e = link (slot_of slots i) e

-- where an optional link leads
abbrev pub reached : Option Link → Option ℕ
reached None = None
reached (Some l) = Some (target l)

-- one step on, where a slot was reached
abbrev pub follow : List Slot → Option ℕ → Step → Option ℕ
follow slots None e = None
follow slots (Some i) e = reached (link_of slots i e)

-- the slot that a walk from the root reaches, if it reaches one
abbrev pub walk_end : List Slot → ℕ → Walk → Option ℕ
walk_end slots root [] = Some root
walk_end slots root (e ∷ walk) = follow slots (walk_end slots root walk) e
