-- The links of single slots.
use Rattle.std.specs.Prelude.{◌≡◌, ℕ, ◌<◌, ◌≤◌, List, ◌∷◌, length, Some, None}
use Rattle.cube_view.specs.Walks.{Step, down, Walk, IsCoarser}
use Rattle.node_arena.specs.declared.link.Link.{Link}
use Rattle.node_arena.specs.Shape.{home_of}
use Rattle.node_arena.specs.Slots.{target, Slot, IsRising, children_of, slot_of, link_of}

-- each label is a byte, as the calls of an arena can tell it
abbrev pub HasSmallLabels : List Slot → Type 0
HasSmallLabels slots = (i label : ℕ) (l : Link) → link_of slots i (down label) ≡ Some l → label < 256

-- no child has the label or a later one
abbrev pub NoneFrom : List Slot → ℕ → ℕ → Type 0
NoneFrom slots i from = (m : ℕ) → from ≤ m → link_of slots i (down m) ≡ None

-- the label and the link are the first child's from a label on, where labels rise
pub record IsFirstLink (slots : List Slot) (i from : ℕ) (c : ℕ × Link) : Type 0 where
  pub low : from ≤ c.0
  pub small : c.0 < 256
  pub there : link_of slots i (down c.0) ≡ Some c.1
  pub least : (m : ℕ) → from ≤ m → m < c.0 → link_of slots i (down m) ≡ None
  pub rising : IsRising (children_of (slot_of slots i))

-- The link of a slot leads to a slot whose home is the link's address or finer.
pub record LinkFits (homes : List Walk) (i : ℕ) (e : Step) (l : Link) : Type 0 where
  pub within : target l < length homes
  pub coarser : IsCoarser (e ∷ home_of homes i) (home_of homes (target l))

-- so does each link to a child of the slot
abbrev pub ChildrenFit : List Slot → List Walk → ℕ → Type 0
ChildrenFit slots homes i = (label : ℕ) (l : Link) → link_of slots i (down label) ≡ Some l → LinkFits homes i (down label) l

-- so does each link of the slot
abbrev pub LinksFit : List Slot → List Walk → ℕ → Type 0
LinksFit slots homes i = (e : Step) (l : Link) → link_of slots i e ≡ Some l → LinkFits homes i e l
