-- What slots count that are looked at as parts.
use Rattle.std.specs.Prelude.{ℕ, List, sum_by}
use Rattle.node_arena.specs.Slots.{Slot, slot_of, count}
use Rattle.shape_test.specs.Parts.{part_slot}
use Rattle.shape_test.specs.declared.parts.Part.{Part}

-- how many records parts have together in a bin
abbrev pub ends_count : List Slot → List Part → ℕ → ℕ
ends_count slots parts bin = sum_by (λ p. count (slot_of slots (part_slot p)) bin) parts
