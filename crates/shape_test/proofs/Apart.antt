-- Labels that rise are apart.
use Rattle.std.proofs.Common.{ℕ, suc, ◌<◌, ◌≤◌, ◌⊎◌, inl, inr, List, [], ◌∷◌, length, sym, subst, arith}
use Rattle.std.proofs.Math.ListN.{get_or-eq_default}
use Rattle.std.proofs.lemmas.Bool.{cases_lt}
use Rattle.node_arena.specs.Slots.{Children, IsRising, Slot, empty_node, children_of, slot_of}
use Rattle.node_arena.specs.Stats.{AllRising}
use Rattle.node_arena.proofs.Labels.{child_before, rising-tail}
use Rattle.shape_test.proofs.Core.{IsApart}

-- children whose labels rise have labels that are apart
pub rising_apart : (kids : Children) → IsRising kids → IsApart kids
rising_apart [] R = tt
rising_apart (k ∷ kids) R =
    (child_before kids k.0 (λ i d less. R 0 (suc i) d (omega arith) (omega arith)), rising_apart kids (rising-tail k kids R))

pub all_apart : (slots : List Slot) → AllRising slots → (i : ℕ) → IsApart (children_of (slot_of slots i))
all_apart slots R i = go (cases_lt i (length slots))
  where
    go : (i < length slots) ⊎ (length slots ≤ i) → IsApart (children_of (slot_of slots i))
    go (inl l) = rising_apart (children_of (slot_of slots i)) (R i empty_node l)
    go (inr l) = subst (λ (s : Slot). IsApart (children_of s)) (sym (get_or-eq_default slots empty_node l)) tt
