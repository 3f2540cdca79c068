-- Changes of an arena that are taken back, the last one first.
use Rattle.std.specs.Prelude.{ℕ, ◌<◌, ◌≤◌, if◌then◌else◌, ◌≡◌, ◌⊎◌, Bool, true, false, List, [], ◌∷◌, ◌++◌, length, map, Option, IsSome}
use Rattle.cube_view.specs.Walks.{down}
use Rattle.node_arena.specs.declared.link.Link.{Link}
use Rattle.node_arena.specs.declared.link.SlotId.{SlotId}
use Rattle.node_arena.specs.Slots.{Slot, IsNode, IsTable, slot_of, count, link_of}
use Rattle.node_arena.specs.Calls.{drop_child, set_child, set_content, table_take_many}
use Rattle.arena_undo.specs.declared.change.Change.{Change}
use Rattle.arena_undo.specs.declared.change.Change.TheVariants.{Put, Relinked, Filled, Counted}

-- the slots before the change
abbrev pub take_back : Change → List Slot → List Slot
take_back (Put id label) slots = drop_child slots id.0 label
take_back (Relinked id label old) slots = set_child slots id.0 label old
take_back (Filled id old) slots = set_content slots id.0 old
take_back (Counted id bin amount) slots = table_take_many slots id.0 bin amount

-- the slot is a node of the arena
abbrev pub IsNodeAt : List Slot → ℕ → Type 0
IsNodeAt slots i = (i < length slots) × IsNode (slot_of slots i)

-- what the change made is there to be taken back
abbrev pub CanTake : Change → List Slot → Type 0
CanTake (Put id label) slots = IsNodeAt slots id.0 × IsSome (link_of slots id.0 (down label))
CanTake (Relinked id label old) slots = IsNodeAt slots id.0 × IsSome (link_of slots id.0 (down label))
CanTake (Filled id old) slots = IsNodeAt slots id.0
CanTake (Counted id bin amount) slots = (id.0 < length slots) × IsTable (slot_of slots id.0) × (0 < amount) × (amount ≤ count (slot_of slots id.0) bin)

-- a change for each amount of a run
abbrev pub counted_each : SlotId → List (ℕ × ℕ) → List Change
counted_each id run = map (λ (a : ℕ × ℕ). Counted id a.0 a.1) run

-- the changes with some more, if these are wanted
abbrev pub with_notes : Bool → List Change → List Change → List Change
with_notes wanted more changes = if wanted then changes ++ more else changes

-- whether a content has to be noted: that of a slot of the beginning, unless the same stood there
abbrev pub TellsNewContent : ℕ → ℕ → Option Link → Option Link → Bool → Type 0
TellsNewContent i first old link true = i < first
TellsNewContent i first old link false = (first ≤ i) ⊎ (old ≡ link)

-- the slots before the changes, which stand in the order in which they were made
abbrev pub undone : List Change → List Slot → List Slot
undone [] slots = slots
undone (c ∷ changes) slots = take_back c (undone changes slots)

-- each of the changes can be taken back in its turn
abbrev pub CanUndo : List Change → List Slot → Type 0
CanUndo [] slots = Unit {0}
CanUndo (c ∷ changes) slots = CanTake c (undone changes slots) × CanUndo changes slots
