-- Sharing, said of one node.
use Rattle.std.specs.Prelude.{◌≡◌, ℕ, ◌<◌, List, length, Some}
use Rattle.cube_view.specs.Walks.{Step}
use Rattle.node_arena.specs.declared.link.Link.{Link}
use Rattle.node_arena.specs.Shape.{HasOneChild, SharesContent}
use Rattle.node_arena.specs.Slots.{target, Slot, link_of}

-- the node at a place, if it has one child, shares that child's content
abbrev pub SharesAt : List Slot → ℕ → Type 0
SharesAt slots i = (label : ℕ) (l : Link) → HasOneChild slots i label l → SharesContent slots i l

-- each link leads to a slot
abbrev pub LeadsWithin : List Slot → Type 0
LeadsWithin slots = (i : ℕ) (e : Step) (l : Link) → link_of slots i e ≡ Some l → target l < length slots
