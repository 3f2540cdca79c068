-- The changing calls of an arena, as functions on its list of slots.
use Rattle.std.specs.Prelude.{ℕ, ◌==◌, if◌then◌else◌, nat_lt, List, [], ◌∷◌, ◌++◌, map, slice_set, Option, Some, None}
use Rattle.std.specs.FinMap.{empty}
use Rattle.time_table.specs.Counts.{add_many, add_run, take_many}
use Rattle.node_arena.specs.declared.link.Link.{Link}
use Rattle.node_arena.specs.Slots.{shared, target, Children, Slot, node, table, empty_node, slot_of}

-- the children with one of a new label, in the order of labels
abbrev pub with_child : Children → ℕ → Link → Children
with_child [] l k = (l, k) ∷ []
with_child (x ∷ children) l k = if nat_lt l x.0 then (l, k) ∷ x ∷ children else x ∷ with_child children l k

-- the children with another link at the label
abbrev pub with_link : Children → ℕ → Link → Children
with_link [] l k = []
with_link (x ∷ children) l k = if x.0 == l then (l, k) ∷ children else x ∷ with_link children l k

-- the children without the one at the label
abbrev pub without_child : Children → ℕ → Children
without_child [] l = []
without_child (x ∷ children) l = if x.0 == l then children else x ∷ without_child children l

-- the first child whose label is at least that
abbrev pub child_from : Children → ℕ → Option (ℕ × Link)
child_from [] l = None
child_from (x ∷ children) l = if nat_lt x.0 l then child_from children l else Some x

-- the link of the only child, where there is exactly one
abbrev pub only_link : Children → Option Link
only_link [] = None
only_link (x ∷ []) = Some x.1
only_link (x ∷ y ∷ children) = None

-- the same children by shared links
abbrev pub share_all : Children → Children
share_all children = map (λ (k : ℕ × Link). (k.0, shared (target k.1))) children

-- the same content by a shared link
abbrev pub share : Option Link → Option Link
share None = None
share (Some l) = Some (shared (target l))

-- a shallow copy: all links are shared; a time table has the same counts
abbrev pub copied : Slot → Slot
copied (node children content) = node (share_all children) (share content)
copied (table counts) = table counts

-- the slot with one child more
abbrev pub put : Slot → ℕ → Link → Slot
put (node children content) l k = node (with_child children l k) content
put (table counts) l k = table counts

-- the slot with another link to a child
abbrev pub relink : Slot → ℕ → Link → Slot
relink (node children content) l k = node (with_link children l k) content
relink (table counts) l k = table counts

-- the slot with one child less
abbrev pub unlink : Slot → ℕ → Slot
unlink (node children content) l = node (without_child children l) content
unlink (table counts) l = table counts

-- the slot with that content, or none
abbrev pub with_content : Slot → Option Link → Slot
with_content (node children content) c = node children c
with_content (table counts) c = table counts

-- the slot with n records more in a bin
abbrev pub with_many : Slot → ℕ → ℕ → Slot
with_many (node children content) bin n = node children content
with_many (table counts) bin n = table (add_many counts bin n)

-- the slot with the amounts of a run more, each in its bin
abbrev pub with_run : Slot → List (ℕ × ℕ) → Slot
with_run (node children content) run = node children content
with_run (table counts) run = table (add_run counts run)

-- the slot with n records less in a bin
abbrev pub without_many : Slot → ℕ → ℕ → Slot
without_many (node children content) bin n = node children content
without_many (table counts) bin n = table (take_many counts bin n)

-- a new slot at the end
abbrev pub with_slot : List Slot → Slot → List Slot
with_slot slots s = slots ++ s ∷ []

-- an empty node more
abbrev pub add_node : List Slot → List Slot
add_node slots = with_slot slots empty_node

-- an empty time table more
abbrev pub add_table : List Slot → List Slot
add_table slots = with_slot slots (table empty)

-- a shallow copy of the slot at a place more
abbrev pub copy_slot : List Slot → ℕ → List Slot
copy_slot slots i = with_slot slots (copied (slot_of slots i))

-- a child more at a place
abbrev pub put_child : List Slot → ℕ → ℕ → Link → List Slot
put_child slots i l k = slice_set slots i (put (slot_of slots i) l k)

-- another link to a child at a place
abbrev pub set_child : List Slot → ℕ → ℕ → Link → List Slot
set_child slots i l k = slice_set slots i (relink (slot_of slots i) l k)

-- a child less at a place
abbrev pub drop_child : List Slot → ℕ → ℕ → List Slot
drop_child slots i l = slice_set slots i (unlink (slot_of slots i) l)

-- another content at a place, or none
abbrev pub set_content : List Slot → ℕ → Option Link → List Slot
set_content slots i c = slice_set slots i (with_content (slot_of slots i) c)

-- n records more in a bin of the time table at a place
abbrev pub table_add_many : List Slot → ℕ → ℕ → ℕ → List Slot
table_add_many slots i bin n = slice_set slots i (with_many (slot_of slots i) bin n)

-- the amounts of a run more in the time table at a place, each in its bin
abbrev pub table_add_run : List Slot → ℕ → List (ℕ × ℕ) → List Slot
table_add_run slots i run = slice_set slots i (with_run (slot_of slots i) run)

-- n records less in a bin of the time table at a place
abbrev pub table_take_many : List Slot → ℕ → ℕ → ℕ → List Slot
table_take_many slots i bin n = slice_set slots i (without_many (slot_of slots i) bin n)

-- a record more in a bin of the time table at a place
abbrev pub table_add : List Slot → ℕ → ℕ → List Slot
table_add slots i bin = table_add_many slots i bin 1

-- a record less in a bin of the time table at a place
abbrev pub table_take : List Slot → ℕ → ℕ → List Slot
table_take slots i bin = table_take_many slots i bin 1
