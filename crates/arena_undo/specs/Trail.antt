-- The trail of an arena at work.
use Rattle.std.specs.Prelude.{ℕ, ◌+◌, ◌≤◌, length, take, List}
use Rattle.node_arena.specs.Slots.{Slot}
use Rattle.arena_undo.specs.declared.change.Change.{Change}
use Rattle.arena_undo.specs.Undone.{CanUndo}

-- the first slots stood at the beginning, each noted change of them can be taken back, and there is room for the
-- changes to come
pub record IsChangeTrail (slots : List Slot) (changes : List Change) (first made room capacity : ℕ) : Type 0 where
  pub within : made ≤ room
  pub beginning : first ≤ length slots
  pub taken : room + length changes ≤ made + capacity
  pub undoable : CanUndo changes (take first slots)
