-- The bytes of an image. Numbers are unsigned, most significant byte first.
use Rattle.std.specs.Prelude.{ℕ, ◌++◌, List, [], ◌∷◌, length, Option, Some, None, codes}
use Rattle.std.specs.Int.{to_be_bytes, w16, w32, w64}
use Rattle.std.specs.List.{flat_map}
use Rattle.node_arena.specs.declared.link.Link.{Link}
use Rattle.node_arena.specs.declared.link.LinkKind.{LinkKind}
use Rattle.node_arena.specs.declared.link.LinkKind.TheVariants.{Proper, Shared}
use Rattle.node_arena.specs.Slots.{target, Children, Slot, node, table}
use Rattle.cube_image.specs.Rest.{byte_children, word_rows}

-- 1 for a proper link, 2 for a shared one
abbrev pub kind_byte : LinkKind → ℕ
kind_byte Proper = 1
kind_byte Shared = 2

-- the kind and the target
abbrev pub link_bytes : Link → List ℕ
link_bytes l = (kind_byte l.kind ∷ []) ++ to_be_bytes w64 (target l)

-- the label and the link
abbrev pub child_bytes : ℕ × Link → List ℕ
child_bytes c = (c.0 ∷ []) ++ link_bytes c.1

-- 0, or the link
abbrev pub content_bytes : Option Link → List ℕ
content_bytes None = 0 ∷ []
content_bytes (Some l) = link_bytes l

-- the bin and the count
abbrev pub row_bytes : ℕ × ℕ → List ℕ
row_bytes e = to_be_bytes w32 e.0 ++ to_be_bytes w64 e.1

-- 2, how many rows, and the rows in rising order of bin
abbrev pub table_bytes : List (ℕ × ℕ) → List ℕ
table_bytes rows = (2 ∷ []) ++ to_be_bytes w64 (length rows) ++ flat_map row_bytes rows

-- 1, how many children, the children in rising order of label, and the content
abbrev pub node_bytes : Children → Option Link → List ℕ
node_bytes children content = (1 ∷ []) ++ to_be_bytes w16 (length children) ++ flat_map child_bytes children ++ content_bytes content

-- the bytes of a node, or of a time table
abbrev pub slot_bytes : Slot → List ℕ
slot_bytes (node children content) = node_bytes (byte_children children) content
slot_bytes (table counts) = table_bytes (word_rows counts)

-- the name of the form, the size, and how many slots there are
abbrev pub head_bytes : ℕ → ℕ → List ℕ
head_bytes size slots = codes "NANOCUB1" ++ to_be_bytes w64 size ++ to_be_bytes w64 slots

-- the image of slots that stand in its order
abbrev pub image_bytes : ℕ → List Slot → List ℕ
image_bytes size slots = head_bytes size (length slots) ++ flat_map slot_bytes slots
