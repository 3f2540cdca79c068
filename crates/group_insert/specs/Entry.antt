-- The entry for a link that may be put off, as the visit finds it.
use Rattle.std.specs.Prelude.{◌≡◌, ℕ, ◌+◌, ◌-◌, ◌<◌, ◌≤◌, ◌⊎◌, ◌==◌, if◌then◌else◌, Bool, true, false, List, [], ◌∷◌, ◌++◌, length, Option, Some, None, slice_index_or, slice_set}
use Rattle.cube_view.specs.Places.{deepest}
use Rattle.cube_view.specs.Points.{Point}
use Rattle.cube_view.specs.declared.schema.Schema.{Schema}
use Rattle.cube_view.specs.Walks.{down}
use Rattle.node_arena.specs.Slots.{proper, shared, Slot, link_of, walk_end}
use Rattle.node_arena.specs.declared.link.SlotId.{SlotId}
use Rattle.point_insert.specs.Visited.{place_of}
use Rattle.group_insert.specs.FinerWalk.{finer_steps, entry_of}
use Rattle.group_insert.specs.Labels.{TellsOneLabel}
use Rattle.group_insert.specs.Later.{PutOff}
use Rattle.group_insert.specs.Ways.{way_from, IsOpenIn}
use Rattle.group_insert.specs.declared.put_off.PutOffLink.{PutOffLink}
use Rattle.group_insert.specs.declared.way.Way.{Way}
use Rattle.proper_path.specs.Rooted.{places_of}

-- the level of the root of a dimension on the way
abbrev pub root_level : Way → ℕ → ℕ
root_level way from = if from == 1 then way.level else 0

-- the slot at level 0 of a dimension on the way, or the node of space
abbrev pub root_at : Way → ℕ → ℕ
root_at way from = slice_index_or (places_of way.roots) from 0

-- the entry whose walk turns off by a label in the dimension `from`
abbrev pub turn_of : Way → ℕ → ℕ → ℕ → ℕ → ℕ → PutOff
turn_of way node label dim from turn = record { node = node; label = label; base = root_at way from; turn = turn; way = way_from way.values from (dim - from - 1) }

-- the walk of the entry turns off in the dimension `from`, where all points of the part have one label, and the old
-- link leads where that walk leads or is none
pub record TurnsIn (schema : Schema) (slots : List Slot) (part : List Point) (way : Way) (node label dim from : ℕ) (old : Option SlotId) (p : PutOffLink) : Type 0 where
  pub is : entry_of p ≡ turn_of way node label dim from p.turn
  pub within : p.from + p.between < 6
  pub is_open : IsOpenIn way.values from
  pub less : root_level way from < deepest schema from
  pub one : TellsOneLabel schema from (root_level way from + 1) part (Some p.turn)
  pub leads : (old ≡ None) ⊎ (walk_end slots (root_at way from) (finer_steps (entry_of p)) ≡ place_of old)

-- so in some dimension before the node's
pub record MayTurn (schema : Schema) (slots : List Slot) (part : List Point) (way : Way) (node label dim : ℕ) (old : Option SlotId) (p : PutOffLink) : Type 0 where
  pub from : ℕ
  pub some : 1 ≤ from
  pub early : from < dim
  pub turn : TurnsIn schema slots part way node label dim from old p

-- what is known of a link that is shared or none
abbrev pub TellsShared : List Slot → ℕ → ℕ → Option SlotId → Type 0
TellsShared slots node label None = link_of slots node (down label) ≡ None
TellsShared slots node label (Some to) = link_of slots node (down label) ≡ Some (shared to.0)

-- the list has one entry more, for the label's link
pub record HasEntry (schema : Schema) (slots : List Slot) (part : List Point) (way : Way) (node label dim : ℕ) (before after : List PutOffLink) : Type 0 where
  pub entry : PutOffLink
  pub is : after ≡ before ++ entry ∷ []
  pub old : Option SlotId
  pub held : TellsShared slots node label old
  pub turn : MayTurn schema slots part way node label dim old entry

-- why the walk turns off in no label of the dimension `from`: that is not open below its root, or two points of the
-- part part there, or the walk does not lead where the old link does
pub data HasNoTurn (schema : Schema) (slots : List Slot) (part : List Point) (way : Way) (node label dim from : ℕ) (old : Option SlotId) : Type 0 where
  closed : (IsOpenIn way.values from → root_level way from < deepest schema from → ⊥) → HasNoTurn schema slots part way node label dim from old
  parted : TellsOneLabel schema from (root_level way from + 1) part None → HasNoTurn schema slots part way node label dim from old
  elsewhere : (t : ℕ) (to : SlotId) → TellsOneLabel schema from (root_level way from + 1) part (Some t) → old ≡ Some to → (walk_end slots (root_at way from) (finer_steps (turn_of way node label dim from t)) ≡ Some to.0 → ⊥) → HasNoTurn schema slots part way node label dim from old

-- so in no dimension before the node's
abbrev pub HaveNoTurn : Schema → List Slot → List Point → Way → ℕ → ℕ → ℕ → Option SlotId → Type 0
HaveNoTurn schema slots part way node label dim old = (from : ℕ) → 1 ≤ from → from < dim → HasNoTurn schema slots part way node label dim from old

-- why the link of a label is not put off: the node has one label, or the link is proper, or no walk turns off for it
pub data IsNotPutOff (schema : Schema) (slots : List Slot) (part : List Point) (way : Way) (node label dim : ℕ) (wide : Bool) : Type 0 where
  narrow : wide ≡ false → IsNotPutOff schema slots part way node label dim wide
  owned : (to : ℕ) → link_of slots node (down label) ≡ Some (proper to) → IsNotPutOff schema slots part way node label dim wide
  no_turn : (old : Option SlotId) → TellsShared slots node label old → HaveNoTurn schema slots part way node label dim old → IsNotPutOff schema slots part way node label dim wide

-- whether the link of a label has been put off, and why it was not
abbrev pub TellsPut : Schema → List Slot → List Point → Way → ℕ → ℕ → ℕ → Bool → List PutOffLink → List PutOffLink → Bool → Type 0
TellsPut schema slots part way node label dim wide before after false = (after ≡ before) × IsNotPutOff schema slots part way node label dim wide
TellsPut schema slots part way node label dim wide before after true = (wide ≡ true) × HasEntry schema slots part way node label dim before after

-- the roots of open dimensions are slots
abbrev pub HasRoots : List Slot → Way → ℕ → Type 0
HasRoots slots way dim = (from : ℕ) → 1 ≤ from → from < dim → IsOpenIn way.values from → root_at way from < length slots

-- the way one label further down, where a node of space has so many levels above
abbrev pub way_below : Way → ℕ → ℕ → ℕ → SlotId → Way
way_below way dim level label child =
    if dim == 1 then record { values = way.values; roots = slice_set way.roots 1 child; level = level } else record { values = slice_set way.values dim (Some label); roots = way.roots; level = way.level }

-- the way on to the content of a node of the dimension
abbrev pub way_on : Way → ℕ → SlotId → Way
way_on way dim content = record { values = slice_set way.values (dim + 1) None; roots = slice_set way.roots (dim + 1) content; level = way.level }
