-- A slot as an arena stores it, and the slot that contracts see.
use Rattle.node_arena.specs.declared.slot.Stored.{Stored}
use Rattle.node_arena.specs.declared.slot.Stored.TheVariants.{Node, Table}
use Rattle.node_arena.specs.Slots.{Slot, node, table}

-- the slot that is stored
abbrev pub slot_from : Stored → Slot
slot_from (Node children content) = node children content
slot_from (Table counts) = table counts
