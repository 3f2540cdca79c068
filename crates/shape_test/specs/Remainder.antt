-- What is left of rows once those of others are taken off.
use Rattle.std.specs.Prelude.{◌≡◌, ℕ, ◌+◌, ◌<◌, ◌≤◌, List, [], ◌∷◌, All}
use Rattle.std.specs.FinMap.{entries}
use Rattle.probe_core.specs.Places.{RisesBy}
use Rattle.time_table.specs.Counts.{amount_at}
use Rattle.node_arena.specs.Slots.{Slot, slot_of, counts_of}
use Rattle.shape_test.specs.Parts.{part_slot}
use Rattle.shape_test.specs.declared.parts.Part.{Part}

-- the bin of a row
abbrev pub row_key : ℕ × ℕ → ℕ
row_key row = row.0

-- the rows of a slot: a node has none
abbrev pub slot_rows : List Slot → ℕ → List (ℕ × ℕ)
slot_rows slots i = entries (counts_of (slot_of slots i))

-- the rows of the first part, if there is one
abbrev pub first_rows : List Slot → List Part → List (ℕ × ℕ)
first_rows slots [] = []
first_rows slots (p ∷ parts) = slot_rows slots (part_slot p)

-- rows that can be taken off: they rise, and none is without a record
pub record AreOrderly (rows : List (ℕ × ℕ)) : Type 0 where
  pub rises : RisesBy row_key rows
  pub counted : All (λ row. 0 < row.1) rows

-- rows count in no bin more than others
abbrev pub FitIn : List (ℕ × ℕ) → List (ℕ × ℕ) → Type 0
FitIn rows others = (bin : ℕ) → amount_at bin rows ≤ amount_at bin others

-- in each bin there was what is left and what the rows count
abbrev pub IsRemainder : List (ℕ × ℕ) → List (ℕ × ℕ) → List (ℕ × ℕ) → Type 0
IsRemainder old rows new = (bin : ℕ) → amount_at bin old ≡ amount_at bin new + amount_at bin rows
