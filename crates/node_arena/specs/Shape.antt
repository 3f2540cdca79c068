-- The shape of a cube. It is said link by link, of the slots, of the homes of the slots in the same
-- order, and of a list h of spots with amounts that the cube counts. The root is slot 0, and the dimension of number
-- `dims` is time. The laws of Reach.antt say the same of walks from the root.
use Rattle.std.specs.Prelude.{◌≡◌, ℕ, ◌<◌, ◌↔◌, List, [], ◌∷◌, length, map, slice_index_or, Some, Contains}
use Rattle.node_arena.specs.declared.link.Link.{Link}
use Rattle.cube_view.specs.Walks.{Step, down, across, Walk, SpotPath, Under, HasSpot, IsCoarser, dimension}
use Rattle.node_arena.specs.Amounts.{Weighted, spots_in, amount_under}
use Rattle.node_arena.specs.Slots.{proper, shared, target, Slot, IsTable, slot_of, link_of, count}

-- the home of the slot at a place: the walk along proper links that leads to it
abbrev pub home_of : List Walk → ℕ → Walk
home_of homes i = slice_index_or homes i []

-- a proper link leads to slot j
pub record IsOwned (slots : List Slot) (j : ℕ) : Type 0 where
  pub by : ℕ
  pub step : Step
  pub owns : link_of slots by step ≡ Some (proper j)

-- each slot but the root has a proper link that leads to it
abbrev pub AreOwned : List Slot → Type 0
AreOwned slots = (j : ℕ) → 0 < j → j < length slots → IsOwned slots j

-- Part 1, homes. Each slot but the root has one proper link to it, the root has none, and proper links
-- lead from the root to each slot: a proper link leads from a home to a home that is one step longer,
-- each slot but the root has such a link, and no two slots have one home.
pub record HasProperLinks (slots : List Slot) (homes : List Walk) : Type 0 where
  pub size : length homes ≡ length slots
  pub some : 0 < length slots
  pub root : home_of homes 0 ≡ []
  pub distinct : (i j : ℕ) → i < length slots → j < length slots → home_of homes i ≡ home_of homes j → i ≡ j
  pub owner : AreOwned slots
  pub at_home : (i j : ℕ) (e : Step) → link_of slots i e ≡ Some (proper j) → (j < length slots) × (home_of homes j ≡ e ∷ home_of homes i)

-- Part 1, tables. A slot is a time table exactly where its home's dimension is time.
pub record HasTables (dims : ℕ) (slots : List Slot) (homes : List Walk) : Type 0 where
  pub tables : (i : ℕ) → i < length slots → IsTable (slot_of slots i) ↔ (dimension (home_of homes i) ≡ dims)

-- Part 2. The address of a shared link is coarser than its target's home or equal. For proper links
-- they are equal by part 1, so each address at which a slot is reached is coarser than its home.
pub record HasHomes (slots : List Slot) (homes : List Walk) : Type 0 where
  pub owned : HasProperLinks slots homes
  pub open owned use *
  pub finer : (i j : ℕ) (e : Step) → link_of slots i e ≡ Some (shared j) → (j < length slots) × IsCoarser (e ∷ home_of homes i) (home_of homes j)

-- a link stands at the place and the step
pub record IsLinked (slots : List Slot) (i : ℕ) (e : Step) : Type 0 where
  pub link : Link
  pub is : link_of slots i e ≡ Some link

-- Part 3, links. A link is there where a spot of `sure` lies under its address, and only where one of
-- `all` does; and the spots of `sure` under its address lie under its target's home. In a shape both
-- lists are h. Within an insertion `all` has the new spot too.
pub record HoldsSpots (slots : List Slot) (homes : List Walk) (sure all : List SpotPath) : Type 0 where
  pub needed : (i : ℕ) (e : Step) → i < length slots → HasSpot sure (e ∷ home_of homes i) → IsLinked slots i e
  pub wanted : (i : ℕ) (e : Step) (l : Link) → link_of slots i e ≡ Some l → HasSpot all (e ∷ home_of homes i)
  pub agrees : (i : ℕ) (e : Step) (l : Link) → link_of slots i e ≡ Some l → (q : SpotPath) → Contains sure q → Under q (e ∷ home_of homes i) → Under q (home_of homes (target l))

-- Part 3, counts. A time table counts the amounts under its home, bin by bin.
pub record CountsSpots (slots : List Slot) (homes : List Walk) (h : List Weighted) : Type 0 where
  pub counts : (i bin : ℕ) → i < length slots → IsTable (slot_of slots i) → count (slot_of slots i) bin ≡ amount_under h (home_of homes i) bin

-- the node at a place has one child, which is at the label
pub record HasOneChild (slots : List Slot) (i label : ℕ) (l : Link) : Type 0 where
  pub is : link_of slots i (down label) ≡ Some l
  pub only : (m : ℕ) (k : Link) → link_of slots i (down m) ≡ Some k → m ≡ label

-- the node has a shared content link to the child's content
pub record SharesContent (slots : List Slot) (i : ℕ) (child : Link) : Type 0 where
  pub content : Link
  pub of_child : link_of slots (target child) across ≡ Some content
  pub of_node : link_of slots i across ≡ Some (shared (target content))

-- a node with one child shares that child's content
abbrev pub SharesWithChild : List Slot → ℕ → Type 0
SharesWithChild slots i = (label : ℕ) (l : Link) → HasOneChild slots i label l → SharesContent slots i l

-- Part 4. So does each node.
abbrev pub SharesOnlyContent : List Slot → Type 0
SharesOnlyContent slots = (i : ℕ) → SharesWithChild slots i

-- parts 1 to 3, which say what walks from the root reach
pub record IsShaped (dims : ℕ) (slots : List Slot) (homes : List Walk) (h : List Weighted) : Type 0 where
  pub has_homes : HasHomes slots homes
  pub has_tables : HasTables dims slots homes
  pub holds : HoldsSpots slots homes (spots_in h) (spots_in h)
  pub counted : CountsSpots slots homes h

-- all spots have paths of the same lengths, in as many dimensions as the cube has
pub record AreAlike (dims : ℕ) (h : List SpotPath) : Type 0 where
  pub lengths : List ℕ
  pub all : length lengths ≡ dims
  pub same : (q : SpotPath) → Contains h q → map (λ path. length path) q.paths ≡ lengths

-- the shape of a cube that shares what it can
pub record HasShape (dims : ℕ) (slots : List Slot) (homes : List Walk) (h : List Weighted) : Type 0 where
  pub shaped : IsShaped dims slots homes h
  pub open shaped use *
  pub shares : SharesOnlyContent slots
  pub alike : AreAlike dims (spots_in h)
