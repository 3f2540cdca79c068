-- What contracts see of an arena at work.
use Rattle.std.specs.Prelude.{ℕ, ◌+◌, List}
use Rattle.node_arena.specs.Slots.{Slot}

-- the slots now, the slots at the beginning, how many changes were made, and for how many there is room
pub record Worked : Type 0 where
  pub slots : List Slot
  pub start : List Slot
  pub made : ℕ
  pub room : ℕ

-- the work before any change
abbrev pub begun : List Slot → ℕ → Worked
begun slots room = record { slots = slots; start = slots; made = 0; room = room }

-- the work with one change more, which left the slots
abbrev pub changed : Worked → List Slot → Worked
changed w slots = record { slots = slots; start = w.start; made = w.made + 1; room = w.room }

-- the work with n changes more, which left the slots
abbrev pub changed_by : ℕ → Worked → List Slot → Worked
changed_by n w slots = record { slots = slots; start = w.start; made = w.made + n; room = w.room }
