-- The insertion invariant: the state of a cube in the middle of an insertion. h is the old points, p the new one, and
-- `done` says of an address that its visit has ended.
use Rattle.std.specs.Prelude.{◌≡◌, ℕ, ◌<◌, true, ◌⊎◌, List, ◌∷◌, length, Some, Contains}
use Rattle.cube_view.specs.Walks.{Step, down, across, Walk, Under}
use Rattle.proper_path.specs.Order.{IsAbove, IsBefore}
use Rattle.node_arena.specs.declared.link.Link.{Link}
use Rattle.node_arena.specs.Slots.{proper, target, Slot, link_of, slot_of, count, is_table}
use Rattle.node_arena.specs.Shape.{home_of, HasHomes, HoldsSpots, HasTables, HasOneChild, SharesContent}
use Rattle.node_arena.specs.Amounts.{Weighted, spots_in, amount_under}

-- a content slot's home
pub record IsContentHome (a : Walk) : Type 0 where
  pub of : Walk
  pub is : a ≡ across ∷ of

-- where p goes along the step from the node, a link leads there to what holds p
abbrev pub LeadsOn : List Slot → List Walk → Weighted → ℕ → Step → Type 0
LeadsOn slots homes p i e = Under p.spot (e ∷ home_of homes i) → (l : Link) × (link_of slots i e ≡ Some l) × Under p.spot (home_of homes (target l))

-- what has been visited has the links of p, and they are true of p
pub record IsVisited (slots : List Slot) (homes : List Walk) (p : Weighted) (done : Walk → Type 0) : Type 0 where
  pub holds : (a : Walk) → done a → Under p.spot a
  pub links : (i : ℕ) (e : Step) → i < length slots → done (home_of homes i) → LeadsOn slots homes p i e

-- a table counts all points exactly when its visit has ended, and the old ones h until then
pub record CountsBetween (slots : List Slot) (homes : List Walk) (h all : List Weighted) (done : Walk → Type 0) : Type 0 where
  pub still : (i bin : ℕ) → i < length slots → is_table (slot_of slots i) ≡ true → (done (home_of homes i) → ⊥) → count (slot_of slots i) bin ≡ amount_under h (home_of homes i) bin
  pub now : (i bin : ℕ) → i < length slots → is_table (slot_of slots i) ≡ true → done (home_of homes i) → count (slot_of slots i) bin ≡ amount_under all (home_of homes i) bin

-- the updated set
pub record HasUpdated (slots : List Slot) (homes : List Walk) (done : Walk → Type 0) (updated : List ℕ) : Type 0 where
  pub listed : (i : ℕ) → Contains updated i → (i < length slots) × done (home_of homes i) × IsContentHome (home_of homes i)
  pub lists : (i : ℕ) → i < length slots → done (home_of homes i) → IsContentHome (home_of homes i) → Contains updated i

-- the node has children at two labels
pub record HasTwoChildren (slots : List Slot) (i : ℕ) : Type 0 where
  pub one : ℕ
  pub other : ℕ
  pub differ : one ≡ other → ⊥
  pub first : Link
  pub second : Link
  pub is_first : link_of slots i (down one) ≡ Some first
  pub is_second : link_of slots i (down other) ≡ Some second

-- a node from which p goes down has children at two labels, where it has a content of its own
abbrev pub HaveTwoChildren : List Slot → List Walk → Weighted → Type 0
HaveTwoChildren slots homes p = (i to label : ℕ) → link_of slots i across ≡ Some (proper to) → Under p.spot (down label ∷ home_of homes i) → HasTwoChildren slots i

-- What has been visited and what doesn't hold p shares an only child's content; and no proper content stands at a node
-- of one child.
pub record SharesBetween (slots : List Slot) (homes : List Walk) (p : Weighted) (done : Walk → Type 0) : Type 0 where
  pub shares : (i label : ℕ) (l : Link) → (done (home_of homes i) ⊎ (Under p.spot (home_of homes i) → ⊥)) → HasOneChild slots i label l → SharesContent slots i l
  pub many : HaveTwoChildren slots homes p

-- the invariant without the updated set and without shared content
pub record IsGrowing (dims : ℕ) (slots : List Slot) (homes : List Walk) (h : List Weighted) (p : Weighted) (done : Walk → Type 0) : Type 0 where
  pub has_homes : HasHomes slots homes
  pub has_tables : HasTables dims slots homes
  pub holds : HoldsSpots slots homes (spots_in h) (spots_in (p ∷ h))
  pub visited : IsVisited slots homes p done
  pub counted : CountsBetween slots homes h (p ∷ h) done

-- the invariant without shared content
pub record IsMidway (dims : ℕ) (slots : List Slot) (homes : List Walk) (h : List Weighted) (p : Weighted) (done : Walk → Type 0) (updated : List ℕ) : Type 0 where
  pub growing : IsGrowing dims slots homes h p done
  pub open growing use *
  pub updates : HasUpdated slots homes done updated

-- the addresses whose visit has ended when that of a begins, and when it has ended
abbrev pub DoneBefore : Weighted → Walk → Walk → Type 0
DoneBefore p a b = Under p.spot b × IsBefore b a

abbrev pub DoneAfter : Weighted → Walk → Walk → Type 0
DoneAfter p a b = Under p.spot b × (IsBefore b a ⊎ IsAbove a b)

-- each address of the one is one of the other
abbrev pub IsPartOf : (Walk → Type 0) → (Walk → Type 0) → Type 0
IsPartOf some more = (a : Walk) → some a → more a

-- the visit of slot i ends: what is done besides is its home, among the slots there are
pub record IsEnded (slots : List Slot) (homes : List Walk) (done next : Walk → Type 0) (i : ℕ) : Type 0 where
  pub kept : IsPartOf done next
  pub here : next (home_of homes i)
  pub only : (j : ℕ) → j < length slots → next (home_of homes j) → done (home_of homes j) ⊎ (j ≡ i)

-- and what is done then holds p
pub record IsNext (slots : List Slot) (homes : List Walk) (p : Weighted) (done next : Walk → Type 0) (i : ℕ) : Type 0 where
  pub ended : IsEnded slots homes done next i
  pub open ended use *
  pub holds : IsPartOf next (Under p.spot)

-- the slot joins the set, which holds nothing else that is new
pub record IsJoined (before : List ℕ) (i : ℕ) (after : List ℕ) : Type 0 where
  pub kept : (j : ℕ) → Contains before j → Contains after j
  pub here : Contains after i
  pub only : (j : ℕ) → Contains after j → Contains before j ⊎ (i ≡ j)

-- the updated set after that visit: a content slot joins it
pub data Joins (homes : List Walk) (i : ℕ) (updated : List ℕ) : List ℕ → Type 0 where
  joined : {after : List ℕ} → IsContentHome (home_of homes i) → IsJoined updated i after → Joins homes i updated after
  stays : (IsContentHome (home_of homes i) → ⊥) → Joins homes i updated updated

-- what has been visited contains what stands below it and what comes before it
abbrev pub IsClosed : Weighted → (Walk → Type 0) → Type 0
IsClosed p done = (a b : Walk) → done a → Under p.spot b → IsAbove a b ⊎ IsBefore b a → done b

-- the state between two visits
pub record IsBetween (dims : ℕ) (slots : List Slot) (homes : List Walk) (h : List Weighted) (p : Weighted) (done : Walk → Type 0) (updated : List ℕ) : Type 0 where
  pub midway : IsMidway dims slots homes h p done updated
  pub shares : SharesBetween slots homes p done
