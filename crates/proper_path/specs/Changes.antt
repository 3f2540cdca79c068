-- One change of the arena, as what the links and rows are afterwards.
use Rattle.std.specs.Prelude.{◌≡◌, ℕ, suc, ◌+◌, ◌<◌, true, cond, eqb, List, length, Option, Some, None}
use Rattle.cube_view.specs.Walks.{Step}
use Rattle.node_arena.specs.declared.link.Link.{Link}
use Rattle.node_arena.specs.Slots.{proper, Slot, link, link_of, slot_of, count, is_table}

-- each slot is a node or a time table as it was
abbrev pub KeepsKinds : List Slot → List Slot → Type 0
KeepsKinds old new = (j : ℕ) → is_table (slot_of new j) ≡ is_table (slot_of old j)

-- what a link of the new arena is: one of the added slot, the link that was set, or as it was
pub data Came (old : List Slot) (i : ℕ) (e : Step) (s : Slot) (set_to : Option Link) (j : ℕ) (f : Step) (now : Option Link) : Type 0 where
  of_new : j ≡ length old → now ≡ link s f → Came old i e s set_to j f now
  of_set : j ≡ i → f ≡ e → now ≡ set_to → Came old i e s set_to j f now
  of_old : j < length old → (j ≡ i → f ≡ e → ⊥) → now ≡ link_of old j f → Came old i e s set_to j f now
  of_none : now ≡ None → Came old i e s set_to j f now

-- the slot s was added, and the link at i and e now leads properly to it
pub record IsGrown (old new : List Slot) (i : ℕ) (e : Step) (s : Slot) : Type 0 where
  pub size : length new ≡ suc (length old)
  pub place : i < length old
  pub set_link : link_of new i e ≡ Some (proper (length old))
  pub new_link : (f : Step) → link_of new (length old) f ≡ link s f
  pub old_link : (j : ℕ) (f : Step) → j < length old → (j ≡ i → f ≡ e → ⊥) → link_of new j f ≡ link_of old j f
  pub came : (j : ℕ) (f : Step) → Came old i e s (Some (proper (length old))) j f (link_of new j f)
  pub new_count : (bin : ℕ) → count (slot_of new (length old)) bin ≡ count s bin
  pub old_count : (j bin : ℕ) → j < length old → count (slot_of new j) bin ≡ count (slot_of old j) bin
  pub new_kind : is_table (slot_of new (length old)) ≡ is_table s
  pub old_kind : (j : ℕ) → j < length old → is_table (slot_of new j) ≡ is_table (slot_of old j)

-- the link at i and e was set to l
pub record IsRelinked (old new : List Slot) (i : ℕ) (e : Step) (l : Link) : Type 0 where
  pub size : length new ≡ length old
  pub place : i < length old
  pub set_link : link_of new i e ≡ Some l
  pub old_link : (j : ℕ) (f : Step) → (j ≡ i → f ≡ e → ⊥) → link_of new j f ≡ link_of old j f
  pub old_count : (j bin : ℕ) → count (slot_of new j) bin ≡ count (slot_of old j) bin
  pub old_kind : KeepsKinds old new

-- the table i counts so much more in each bin, and nothing else has changed
pub record IsAdded (old new : List Slot) (i : ℕ) (more : ℕ → ℕ) : Type 0 where
  pub size : length new ≡ length old
  pub place : i < length old
  pub kind : is_table (slot_of old i) ≡ true
  pub links : (j : ℕ) (f : Step) → link_of new j f ≡ link_of old j f
  pub here : (b : ℕ) → count (slot_of new i) b ≡ count (slot_of old i) b + more b
  pub old_count : (j b : ℕ) → (j ≡ i → ⊥) → count (slot_of new j) b ≡ count (slot_of old j) b
  pub old_kind : KeepsKinds old new

-- it counts n more at the bin
abbrev pub IsCounted : List Slot → List Slot → ℕ → ℕ → ℕ → Type 0
IsCounted old new i bin n = IsAdded old new i (λ b. cond (eqb bin b) n 0)
