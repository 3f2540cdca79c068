-- What parts count in a bin.
use Rattle.std.proofs.Common.{◌≡◌, ℕ, ◌+◌, ◌<◌, ◌≤◌, List, length, take, get_or, arith}
use Rattle.std.proofs.lemmas.List.Sums.{sum_by_more, sum_by-take-le}
use Rattle.node_arena.specs.Slots.{Slot, slot_of, count}
use Rattle.shape_test.specs.Ends.{ends_count}
use Rattle.shape_test.specs.Parts.{part_slot}
use Rattle.shape_test.specs.declared.parts.Part.{Part}

-- the parts before one, and it, are not more than all
pub ends_part : (slots : List Slot) (parts : List Part) (i : ℕ) (d : Part) (bin total part : ℕ) → i < length parts → total ≡ ends_count slots (take i parts) bin → part ≡ count (slot_of slots (part_slot (get_or parts i d))) bin → total + part ≤ ends_count slots parts bin
ends_part slots parts i d bin total part l T P =
    let m = sum_by_more (λ (p : Part). count (slot_of slots (part_slot p)) bin) parts i d l in
    let t = sum_by-take-le (λ (p : Part). count (slot_of slots (part_slot p)) bin) parts (i + 1) in
    omega (arith, m, t, T, P)
