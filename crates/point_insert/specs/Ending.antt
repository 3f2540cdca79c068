-- The end of a visit.
use Rattle.std.specs.Prelude.{◌≡◌, ℕ, Some}
use Rattle.cube_view.specs.Walks.{down}
use Rattle.node_arena.specs.declared.link.Link.{Link}
use Rattle.node_arena.specs.Slots.{link_of}
use Rattle.proper_path.specs.Midway.{HasTwoChildren, Joins}
use Rattle.proper_path.specs.Making.{State}

-- the visit of node i ends, and i joins the updated set if it is a content
pub record Ends (a : State) (i : ℕ) (b : State) : Type 0 where
  pub slots : b.slots ≡ a.slots
  pub homes : b.homes ≡ a.homes
  pub joins : Joins a.homes i a.updated b.updated

-- cases 2, 3, 4 and 5 come only where the node hasn't exactly one child
abbrev pub HasNotOneChild : State → ℕ → Type 0
HasNotOneChild a i = (label : ℕ) (l : Link) → link_of a.slots i (down label) ≡ Some l → HasTwoChildren a.slots i
