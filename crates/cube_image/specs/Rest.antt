-- What calls of an arena tell of a slot: children with their labels, and rows with their bins. A label is
-- a byte there and a bin a number of 32 bits, so nothing else can be read.
use Rattle.std.specs.Prelude.{ℕ, ◌^◌, if◌then◌else◌, nat_lt, List, [], ◌∷◌}
use Rattle.std.specs.FinMap.{entries}
use Rattle.time_table.specs.Counts.{BinCounts}
use Rattle.node_arena.specs.Slots.{Children, Slot, children_of, slot_of}

-- the pairs whose numbers are less than a number
abbrev pub below_number : {X : Type 0} → ℕ → List (ℕ × X) → List (ℕ × X)
below_number n [] = []
below_number n (x ∷ xs) = if nat_lt x.0 n then x ∷ below_number n xs else below_number n xs

-- the children whose labels are bytes
abbrev pub byte_children : Children → Children
byte_children children = below_number 256 children

-- what calls tell of the children of a slot
abbrev pub told_children : List Slot → ℕ → Children
told_children slots i = byte_children (children_of (slot_of slots i))

-- the rows whose bins have 32 bits
abbrev pub word_rows : BinCounts → List (ℕ × ℕ)
word_rows counts = below_number (2 ^ 32) (entries counts)
