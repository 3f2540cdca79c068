-- What is told of tables, slot by slot.
use Rattle.std.proofs.Common.{ℕ, ◌<◌, ◌≤◌, ◌^◌, List, length, subst, arith}
use Rattle.std.proofs.lemmas.List.{get_or_default}
use Rattle.time_table.specs.Counts.{AllCounted}
use Rattle.time_table.proofs.AddLaws.{AllCounted-empty}
use Rattle.node_arena.specs.Slots.{Slot, node, table, empty_node, IsNode, counts_of, slot_of}
use Rattle.shape_test.specs.Laws.{AllTablesCounted}

-- a node has no rows
pub node-counted : (s : Slot) → IsNode s → AllCounted (counts_of s)
node-counted (node cs content) e = AllCounted-empty
node-counted (table counts) e = absurd cc

-- tables that were told up to their end
pub all-told : (slots : List Slot) (n : ℕ) → length slots ≤ n → ((k : ℕ) → k < n → k < 2 ^ 32 → AllCounted (counts_of (slot_of slots k))) → length slots ≤ 2 ^ 32 → AllTablesCounted slots
all-told slots n le told few i d lt =
    subst (λ (s : Slot). AllCounted (counts_of s)) (get_or_default slots i empty_node d lt) (told i (omega (arith, lt, le)) (omega (arith, lt, few)))
