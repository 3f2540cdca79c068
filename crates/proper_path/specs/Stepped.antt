-- What one step of a trail leaves, in words of the slots alone.
use Rattle.std.specs.Prelude.{◌≡◌, ℕ, ◌<◌, ◌≤◌, ◌+◌, List, length, Some, None}
use Rattle.cube_view.specs.Walks.{Step}
use Rattle.node_arena.specs.Slots.{proper, shared, Slot, empty_node, link_of, slot_of}
use Rattle.node_arena.specs.Calls.{copied}
use Rattle.arena_undo.specs.Worked.{Worked}
use Rattle.proper_path.specs.Changes.{IsGrown}

-- the link was proper; or its shared target was copied, or an empty node added, and it leads properly to the new slot
pub data IsStepped (old : List Slot) (i : ℕ) (e : Step) (j : ℕ) (new : List Slot) : Type 0 where
  had : link_of old i e ≡ Some (proper j) → new ≡ old → IsStepped old i e j new
  copies : (t : ℕ) → link_of old i e ≡ Some (shared t) → j ≡ length old → IsGrown old new i e (copied (slot_of old t)) → IsStepped old i e j new
  adds : link_of old i e ≡ None → j ≡ length old → IsGrown old new i e empty_node → IsStepped old i e j new

-- the shared target of the link, if it has one, is a slot
abbrev pub LeadsInside : List Slot → ℕ → Step → Type 0
LeadsInside slots i e = (t : ℕ) → link_of slots i e ≡ Some (shared t) → t < length slots

-- at most so many changes more, for the same start and room
pub record KeepsRoom (most : ℕ) (old new : Worked) : Type 0 where
  pub start : new.start ≡ old.start
  pub room : new.room ≡ old.room
  pub made : new.made ≤ old.made + most
