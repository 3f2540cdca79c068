-- What contracts see of an arena after a change of one slot.
use Rattle.std.proofs.Common.{◌≡◌, ℕ, ◌<◌, List, map, length, get_or, set, take, sym, ap, ◌∙◌, arith, ap₂}
use Rattle.std.proofs.lemmas.List.{map-set, get_or-map, length-map, take-map}
use Rattle.node_arena.specs.declared.slot.Stored.{Stored}
use Rattle.node_arena.specs.Slots.{Slot, slot_of, empty_node}
use Rattle.node_arena.specs.Stored.{slot_from}

-- `change` was made on the slot at i
pub map-slot_from-set : (items : List Stored) (slots : List Slot) (i : ℕ) (old new : Stored) (change : Slot → Slot) → map slot_from items ≡ slots → i < length slots → old ≡ get_or items i old → slot_from new ≡ change (slot_from old) → map slot_from (set items i new) ≡ set slots i (change (slot_of slots i))
map-slot_from-set items slots i old new change view less read changed =
    map-set slot_from items i new
    ∙ ap₂ (λ (ys : List Slot) (y : Slot). set ys i y) view (changed ∙ ap change (ap slot_from read ∙ (sym (get_or-map slot_from items i old empty_node (omega (arith, length-map items slot_from, ap length view))) ∙ ap (λ ys. slot_of ys i) view)))

pub map-slot_from-take : (items : List Stored) (slots : List Slot) (n : ℕ) → map slot_from items ≡ slots → map slot_from (take n items) ≡ take n slots
map-slot_from-take items slots n view = sym (take-map slot_from n items) ∙ ap (take n) view

-- the slot that is read at i
pub slot_from-read : (items : List Stored) (slots : List Slot) (i : ℕ) (x : Stored) → map slot_from items ≡ slots → i < length slots → x ≡ get_or items i x → slot_from x ≡ slot_of slots i
slot_from-read items slots i x view less read = ap slot_from read ∙ (sym (get_or-map slot_from items i x empty_node (omega (arith, length-map items slot_from, ap length view))) ∙ ap (λ ys. slot_of ys i) view)
