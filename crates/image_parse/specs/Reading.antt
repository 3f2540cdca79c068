-- Reading an image from its front, as functions on its bytes. None comes where no image begins so.
use Rattle.std.specs.Prelude.{ℕ, zero, suc, ◌+◌, ◌==◌, nat_eq, nat_lt, if◌then◌else◌, List, [], ◌∷◌, length, take, drop, Option, Some, None, codes, option_and_then}
use Rattle.std.specs.FinMap.{from_sorted}
use Rattle.std.specs.List.{starts_with}
use Rattle.std.specs.Int.{Width, w16, w32, w64, byte_len, from_be_bytes}
use Rattle.node_arena.specs.declared.link.Link.{Link}
use Rattle.node_arena.specs.Slots.{proper, shared, Children, Slot, node, table}

infixl 10 ◌>>=◌
-- what is read after a first part
abbrev ◌>>=◌ : {A B : Type 0} → Option A → (A → Option B) → Option B
read >>= next = option_and_then next read

-- what is read, and the bytes after it
abbrev pub Front : Type 0 → Type 0
Front X = X × List ℕ

-- what is read, the slot that the next proper link leads to, and the bytes after it
abbrev pub Linked : Type 0 → Type 0
Linked X = X × ℕ × List ℕ

-- a byte
abbrev pub byte_at : List ℕ → Option (Front ℕ)
byte_at [] = None
byte_at (b ∷ bytes) = Some (b, bytes)

-- a number of some bytes
abbrev pub width_number_at : Width → List ℕ → Option (Front ℕ)
width_number_at w bytes = if nat_lt (length bytes) (byte_len w) then None else Some (from_be_bytes w (take (byte_len w) bytes), drop (byte_len w) bytes)

-- the link of a kind to one of n slots, where the next proper link leads to a slot
unfoldable pub link_to : ℕ → ℕ → ℕ → ℕ → Option (Link × ℕ)
link_to n next kind to =
    if nat_lt to n then
    (if kind == 1 then (if to == next then Some (proper to, next + 1) else None)
    else (if kind == 2 then Some (shared to, next) else None))
    else None

-- the rest of a link whose kind was read
unfoldable pub link_at : ℕ → ℕ → ℕ → List ℕ → Option (Linked Link)
link_at n next kind bytes = do
  to ← width_number_at w64 bytes
  l ← link_to n next kind to.0
  Some (l.0, l.1, to.1)

-- a content: a 0, or a link
unfoldable pub content_at : ℕ → ℕ → List ℕ → Option (Linked (Option Link))
content_at n next bytes = do
  kind ← byte_at bytes
  if kind.0 == 0 then Some (None, next, kind.1) else (link_at n next kind.0 kind.1 >>= λ l. Some (Some l.0, l.1, l.2))

-- a child of a label from a number on
unfoldable pub child_at : ℕ → ℕ → ℕ → List ℕ → Option (Linked (ℕ × Link))
child_at n from next bytes = do
  label ← byte_at bytes
  kind ← byte_at label.1
  l ← link_at n next kind.0 kind.1
  if nat_lt label.0 from then None else Some ((label.0, l.0), l.1, l.2)

-- so many children, whose labels rise from a number on
unfoldable pub children_at : ℕ → ℕ → ℕ → ℕ → List ℕ → Option (Linked Children)
children_at zero n from next bytes = Some ([], next, bytes)
children_at (suc k) n from next bytes = do
  first ← child_at n from next bytes
  others ← children_at k n (first.0.0 + 1) first.1 first.2
  Some (first.0 ∷ others.0, others.1, others.2)

-- the rest of a node
unfoldable pub node_at : ℕ → ℕ → List ℕ → Option (Linked Slot)
node_at n next bytes = do
  count ← width_number_at w16 bytes
  children ← children_at count.0 n 0 next count.1
  content ← content_at n children.1 children.2
  Some (node children.0 content.0, content.1, content.2)

-- a row of a bin from a number on
unfoldable pub row_at : ℕ → List ℕ → Option (Front (ℕ × ℕ))
row_at from bytes = do
  bin ← width_number_at w32 bytes
  count ← width_number_at w64 bin.1
  if nat_lt bin.0 from then None else (if count.0 == 0 then None else Some ((bin.0, count.0), count.1))

-- so many rows, whose bins rise from a number on
unfoldable pub table_rows_at : ℕ → ℕ → List ℕ → Option (Front (List (ℕ × ℕ)))
table_rows_at zero from bytes = Some ([], bytes)
table_rows_at (suc k) from bytes = do
  first ← row_at from bytes
  others ← table_rows_at k (first.0.0 + 1) first.1
  Some (first.0 ∷ others.0, others.1)

-- the rest of a table
unfoldable pub table_at : List ℕ → Option (Front Slot)
table_at bytes = do
  count ← width_number_at w64 bytes
  rows ← table_rows_at count.0 0 count.1
  Some (table (from_sorted rows.0), rows.1)

-- a slot
unfoldable pub slot_at : ℕ → ℕ → List ℕ → Option (Linked Slot)
slot_at n next bytes = do
  kind ← byte_at bytes
  if kind.0 == 1 then node_at n next kind.1 else (if kind.0 == 2 then (table_at kind.1 >>= λ t. Some (t.0, next, t.1)) else None)

-- so many slots
unfoldable pub slots_at : ℕ → ℕ → ℕ → List ℕ → Option (Linked (List Slot))
slots_at zero n next bytes = Some ([], next, bytes)
slots_at (suc k) n next bytes = do
  first ← slot_at n next bytes
  others ← slots_at k n first.1 first.2
  Some (first.0 ∷ others.0, others.1, others.2)

-- the name of the form
unfoldable pub form_name_at : List ℕ → Option (List ℕ)
form_name_at bytes = if starts_with nat_eq bytes (codes "NANOCUB1") then Some (drop 8 bytes) else None

-- the name, the size, and how many slots there are
unfoldable pub head_at : List ℕ → Option (Front (ℕ × ℕ))
head_at bytes = do
  rest ← form_name_at bytes
  size ← width_number_at w64 rest
  slots ← width_number_at w64 size.1
  Some ((size.0, slots.0), slots.1)

-- the end: no bytes are left, and each of n slots but the root was the target of a proper link
unfoldable pub end_at : ℕ → Linked (List Slot) → Option (List Slot)
end_at n slots = if slots.1 == n then (if length slots.2 == 0 then Some slots.0 else None) else None

-- all slots behind the head, up to the end, with the size
unfoldable pub all_at : ℕ → ℕ → List ℕ → Option (ℕ × List Slot)
all_at n size bytes = do
  slots ← slots_at n n 1 bytes
  all ← end_at n slots
  Some (size, all)

-- a whole image: its size and its slots, of which each takes a byte at least
unfoldable pub image_at : List ℕ → Option (ℕ × List Slot)
image_at bytes = do
  head ← head_at bytes
  if nat_lt (length head.1) head.0.1 then None else all_at head.0.1 head.0.0 head.1
