-- The invariant of a group's insertion, between two visits. g is the group and h what was counted before; `done` says
-- of an address that its visit has ended, `open` that it has begun and not ended, and `put` has the links that are put
-- off.
use Rattle.std.specs.Prelude.{◌≡◌, ℕ, ◌<◌, ◌⊎◌, List, ◌∷◌, ◌++◌, length, Some, All, Contains}
use Rattle.cube_view.specs.Walks.{Step, down, Walk, SpotPath, Under, HasSpot}
use Rattle.node_arena.specs.Amounts.{Weighted, spots_in}
use Rattle.node_arena.specs.Shape.{home_of, HasHomes, HoldsSpots, HasTables, IsLinked, HasOneChild, SharesContent}
use Rattle.node_arena.specs.Slots.{proper, target, Slot, link_of}
use Rattle.node_arena.specs.declared.link.Link.{Link}
use Rattle.proper_path.specs.Midway.{CountsBetween}
use Rattle.group_insert.specs.Later.{PutOff, link_address, IsPutOff, IsPut, AreInOrder}
use Rattle.group_insert.specs.Turns.{EndedBefore, EndedAfter, IsOpenAbove}

-- a link is there and leads to what holds the spot
pub record LeadsRight (slots : List Slot) (homes : List Walk) (i : ℕ) (e : Step) (q : SpotPath) : Type 0 where
  pub link : Link
  pub is : link_of slots i e ≡ Some link
  pub lies : Under q (home_of homes (target link))

-- the node will have two children: at two labels a link is there or put off
pub record WillHaveTwo (slots : List Slot) (put : List PutOff) (i : ℕ) : Type 0 where
  pub one : ℕ
  pub other : ℕ
  pub differ : one ≡ other → ⊥
  pub at_one : IsLinked slots i (down one) ⊎ IsPut put i (down one)
  pub at_other : IsLinked slots i (down other) ⊎ IsPut put i (down other)

-- what has been visited holds a point of the group, and each link on the way of such a point is right for it or put off
pub record IsVisitedBy (slots : List Slot) (homes : List Walk) (g : List Weighted) (done : Walk → Type 0) (put : List PutOff) : Type 0 where
  pub holds : (a : Walk) → done a → HasSpot (spots_in g) a
  pub links : (i : ℕ) (e : Step) → i < length slots → done (home_of homes i) → (q : SpotPath) → Contains (spots_in g) q → Under q (e ∷ home_of homes i) →
      LeadsRight slots homes i e q ⊎ IsPut put i e

-- the content of only children
pub record SharesWithin (slots : List Slot) (homes : List Walk) (done open' : Walk → Type 0) (put : List PutOff) : Type 0 where
  -- a node whose visit is not under way shares its only child's content, or will have two children
  pub shares : (i label : ℕ) (l : Link) → (open' (home_of homes i) → ⊥) → HasOneChild slots i label l → SharesContent slots i l ⊎ WillHaveTwo slots put i
  -- where that visit has ended the only child is its own
  pub own_child : (i label : ℕ) (l : Link) → done (home_of homes i) → HasOneChild slots i label l → ((to : ℕ) × (l ≡ proper to)) ⊎ WillHaveTwo slots put i

-- the links that are put off
pub record PutsOff (slots : List Slot) (homes : List Walk) (h g : List Weighted) (done : Walk → Type 0) (put : List PutOff) : Type 0 where
  -- each may be, and its turn was when what is done was visited
  pub put_off : All (IsPutOff slots homes h g) put
  pub ended : All (λ k. done (link_address homes k)) put
  -- a node that is done and has such links will have two children
  pub wide : All (λ k. done (home_of homes k.node) → WillHaveTwo slots put k.node) put
  -- and a later one's walk meets no earlier one
  pub in_order : AreInOrder homes put

-- the state between two visits
pub record IsHalfway (dims : ℕ) (slots : List Slot) (homes : List Walk) (h g : List Weighted) (done open' : Walk → Type 0) (put : List PutOff) : Type 0 where
  -- homes, proper links and the targets of shared ones are as in a shape, and so are tables
  pub has_homes : HasHomes slots homes
  pub has_tables : HasTables dims slots homes
  -- links are right for h, and wanted by h or g; where no visit has begun they are wanted by h alone
  pub holds : HoldsSpots slots homes (spots_in h) (spots_in (g ++ h))
  pub untouched : (i : ℕ) (e : Step) (l : Link) → (done (home_of homes i) → ⊥) → (open' (home_of homes i) → ⊥) → link_of slots i e ≡ Some l → HasSpot (spots_in h) (e ∷ home_of homes i)
  -- where visits have ended links are right for g too, and tables count g
  pub visited : IsVisitedBy slots homes g done put
  pub counted : CountsBetween slots homes h (g ++ h) done
  pub shares : SharesWithin slots homes done open' put
  pub later : PutsOff slots homes h g done put

-- when the visit of a begins
abbrev pub IsHalfwayBefore : ℕ → List Slot → List Walk → List Weighted → List Weighted → List PutOff → Walk → Type 0
IsHalfwayBefore dims slots homes h g put a = IsHalfway dims slots homes h g (EndedBefore g a) (IsOpenAbove a) put

-- when it has ended
abbrev pub IsHalfwayAfter : ℕ → List Slot → List Walk → List Weighted → List Weighted → List PutOff → Walk → Type 0
IsHalfwayAfter dims slots homes h g put a = IsHalfway dims slots homes h g (EndedAfter g a) (IsOpenAbove a) put
