-- What tables and slots count.
use Rattle.std.proofs.Common.{◌≡◌, ◌↔◌, ℕ, ◌<◌, Bool, true, false, not, List, refl, sym, ◌∙◌, subst, arith}
use Rattle.std.specs.FinMap.{empty}
use Rattle.time_table.specs.Counts.{BinCounts, AllCounted, count_of}
use Rattle.time_table.proofs.AddLaws.{count_of-empty}
use Rattle.node_arena.specs.Slots.{Slot, node, table, IsNode, slot_of, count, counts_of}
use Rattle.shape_test.specs.Filled.{HasRow}
use Rattle.shape_test.proofs.RowRemainders.{some_row}

-- a table that isn't empty has a row, and an empty one has none
pub row_test : (slots : List Slot) (i : ℕ) (m : BinCounts) (e : Bool) → m ≡ counts_of (slot_of slots i) → AllCounted m → (e ≡ true) ↔ (m ≡ empty) → (not e ≡ true) ↔ HasRow slots i
row_test slots i m true is counted E = (
  λ y. absurd cc,
  λ h.
      let none : m ≡ empty = E.0 refl in
      let some : 0 < count_of empty h.bin = subst (λ (z : BinCounts). 0 < count_of z h.bin) (sym is ∙ none) h.some in
      let z = count_of-empty h.bin in
      absurd (omega (arith, some, z)),
)
row_test slots i m false is counted E = (
  λ y.
      let s = some_row m counted (λ none. let z = E.1 none in absurd cc) in
      record { bin = s.0; some = subst (λ (z : BinCounts). 0 < count_of z s.0) is s.1 },
  λ h. refl,
)

-- a node counts nothing
pub node_count : (s : Slot) (bin : ℕ) → IsNode s → 0 ≡ count s bin
node_count (node children content) bin e = sym (count_of-empty bin)
node_count (table counts) bin e = absurd cc
