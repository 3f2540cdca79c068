-- The cube stays the least one while a group is inserted.
use Rattle.std.specs.Prelude.{◌≡◌, ℕ, ◌⊎◌, List, ◌∷◌, ◌++◌, Option, Some, None}
use Rattle.cube_view.specs.Walks.{Step, down, across, Walk, HasSpot}
use Rattle.node_arena.specs.Amounts.{Weighted, spots_in}
use Rattle.node_arena.specs.Shape.{home_of}
use Rattle.node_arena.specs.Slots.{proper, Slot, link_of}
use Rattle.node_arena.specs.declared.link.Link.{Link}
use Rattle.least_cube.specs.Least.{HasFiner, IsLeast}
use Rattle.proper_path.specs.Order.{IsAbove}
use Rattle.group_insert.specs.Turns.{IsEarlier, IsOpenAbove}

-- the addresses whose turn has come before that of a: what is visited before it, and what stands on the way to it
abbrev pub BegunBefore : Walk → Walk → Type 0
BegunBefore a b = IsEarlier b a ⊎ IsOpenAbove a b

-- those when the visit of a begins
abbrev pub BegunAt : Walk → Walk → Type 0
BegunAt a b = IsEarlier b a ⊎ IsAbove b a

-- and when it has ended
abbrev pub BegunAfter : Walk → Walk → Type 0
BegunAfter a b = BegunAt a b ⊎ IsAbove a b

-- The slots are the least ones of h and g together; where no turn has come they are still those of h alone.
pub record IsLeastSoFar (slots : List Slot) (homes : List Walk) (h g : List Weighted) (begun : Walk → Type 0) : Type 0 where
  -- no proper link has an address of which a finer one has all the spots, old and new
  pub least : IsLeast slots homes (spots_in (g ++ h))
  -- where no turn has come, none has all the old ones, and each link is there for an old one
  pub needed : (i j : ℕ) (e : Step) → link_of slots i e ≡ Some (proper j) → (begun (e ∷ home_of homes i) → ⊥) → HasFiner (spots_in h) (e ∷ home_of homes i) → ⊥
  pub wanted : (i : ℕ) (e : Step) (l : Link) → link_of slots i e ≡ Some l → (begun (e ∷ home_of homes i) → ⊥) → HasSpot (spots_in h) (e ∷ home_of homes i)

-- no finer address has all the spots of the node's content, or of its child where it has one label
pub record NeedsOwn (homes : List Walk) (h g : List Weighted) (i : ℕ) (only : Option ℕ) : Type 0 where
  pub content : only ≡ None → HasFiner (spots_in (g ++ h)) (across ∷ home_of homes i) → ⊥
  pub child : (l m : ℕ) → only ≡ Some l → HasSpot (spots_in g) (down m ∷ home_of homes i) → HasFiner (spots_in (g ++ h)) (down m ∷ home_of homes i) → ⊥
