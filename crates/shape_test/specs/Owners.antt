-- The owners of slots, and the homes to which owners lead back.
use Rattle.std.specs.Prelude.{◌≡◌, ℕ, ◌+◌, ◌*◌, ◌<◌, ◌≤◌, ◌⊎◌, if◌then◌else◌, IsTrue, List, [], ◌∷◌, ◌++◌, length, slice_index_or, slice_set, Option, Some, None}
use Rattle.cube_view.specs.Walks.{Step, down, across, Walk}
use Rattle.cube_view.specs.declared.schema.Schema.{Schema}
use Rattle.node_arena.specs.declared.link.Link.{Link}
use Rattle.node_arena.specs.Shape.{home_of, HasProperLinks}
use Rattle.node_arena.specs.Slots.{id_of, proper, target, Slot, link_of}
use Rattle.node_arena.specs.Stats.{is_proper}
use Rattle.shape_test.specs.Fits.{IsSchemaLocal}
use Rattle.shape_test.specs.Homes.{step_of, walks_of}
use Rattle.shape_test.specs.declared.home.Move.{Move}
use Rattle.shape_test.specs.declared.owner.Owner.{Owner}

-- an owner for each slot, where one is known
abbrev pub Owners : Type 0
Owners = List (Option Owner)

-- the slot at a place and a step, as an owner
abbrev pub owner_of : ℕ → Move → Owner
owner_of i m = record { by = id_of i; step = m }

-- the owner of a slot, where one is known
abbrev pub owner_at : Owners → ℕ → Option Owner
owner_at owners j = slice_index_or owners j None

-- the slot isn't the root, and no owner of it is known
pub record IsFree (owners : Owners) (j : ℕ) : Type 0 where
  pub some : 0 < j
  pub within : j < length owners
  pub none : owner_at owners j ≡ None

-- the owners with that of a link's target, where the link is proper
abbrev pub with_owner : Owners → Link → Owner → Owners
with_owner owners l o = if is_proper l then slice_set owners (target l) (Some o) else owners

-- a link's owner was noted: where the link is proper, its target was free
pub record IsNoted (old new : Owners) (l : Link) (o : Owner) : Type 0 where
  pub free : IsTrue (is_proper l) → IsFree old (target l)
  pub is : new ≡ with_owner old l o

-- a proper link leads to the root, to no slot, or to a slot that has an owner
pub record IsSecond (owners : Owners) (l : Link) : Type 0 where
  pub owning : IsTrue (is_proper l)
  pub taken : IsFree owners (target l) → ⊥

-- the owner that is known of a slot is the link at a slot and a step
pub record IsOwner (owners : Owners) (i : ℕ) (e : Step) (j : ℕ) : Type 0 where
  pub step : Move
  pub is : step_of step ≡ e
  pub noted : owner_at owners j ≡ Some (owner_of i step)

-- The owners are those that the proper links name which have been seen.
pub record AreOwners (slots : List Slot) (seen : ℕ → Step → Type 0) (owners : Owners) : Type 0 where
  pub size : length owners ≡ length slots
  -- each is that of a link which was seen
  pub told : (j : ℕ) (o : Owner) → owner_at owners j ≡ Some o → (link_of slots o.by.0 (step_of o.step) ≡ Some (proper j)) × seen o.by.0 (step_of o.step)
  -- each link that was seen is there, and none leads to the root
  pub all : (i j : ℕ) (e : Step) → seen i e → link_of slots i e ≡ Some (proper j) → (0 < j) × IsOwner owners i e j

-- all links have been seen
abbrev pub HasOwners : List Slot → Owners → Type 0
HasOwners slots owners = AreOwners slots (λ i e. Unit {0}) owners

-- the step leads to a child before a label
abbrev pub IsChildBefore : ℕ → Step → Type 0
IsChildBefore from (down l) = l < from
IsChildBefore from across = ⊥

-- the links of the slots before one, and its own to children before a label
abbrev pub Before : ℕ → ℕ → ℕ → Step → Type 0
Before n from i e = (i < n) ⊎ ((i ≡ n) × IsChildBefore from e)

-- slots have no homes
abbrev pub HasNoHomes : List Slot → Type 0
HasNoHomes slots = (homes : List Walk) → HasProperLinks slots homes → ⊥

-- owners lead back from a slot by the steps, the last one first, to another
abbrev pub LeadsBack : Owners → ℕ → List Move → ℕ → Type 0
LeadsBack owners j [] i = j ≡ i
LeadsBack owners j (m ∷ moves) i = (k : ℕ) × (owner_at owners j ≡ Some (owner_of k m)) × LeadsBack owners k moves i

-- owners lead back from a slot to the root, by no more steps than a number
pub record IsHomeOf (owners : Owners) (most j : ℕ) (home : List Move) : Type 0 where
  pub back : LeadsBack owners j home 0
  pub short : length home ≤ most

-- from a slot owners lead back to one that isn't the root, which has none or is so many steps away
pub record IsLost (owners : Owners) (most j : ℕ) : Type 0 where
  pub moves : List Move
  pub last : ℕ
  pub back : LeadsBack owners j moves last
  pub other : 0 < last
  pub lost : (owner_at owners last ≡ None) ⊎ (most ≤ length moves)

-- each owner is a slot
abbrev pub OwnersWithin : Owners → Type 0
OwnersWithin owners = (j : ℕ) (o : Owner) → owner_at owners j ≡ Some o → o.by.0 < length owners

-- some slot is lost
pub record HasLost (owners : Owners) (most : ℕ) : Type 0 where
  pub slot : ℕ
  pub within : slot < length owners
  pub is : IsLost owners most slot

-- the homes of the first slots are those to which owners lead back
abbrev pub AreHomesOf : Owners → ℕ → List (List Move) → Type 0
AreHomesOf owners most homes = (j : ℕ) → j < length homes → IsHomeOf owners most j (slice_index_or homes j [])

-- the owner of a slot is one of the first slots, and its home has room for one step more
pub record IsNearOwner (owners : Owners) (homes : List (List Move)) (most j : ℕ) (o : Owner) : Type 0 where
  pub noted : owner_at owners j ≡ Some o
  pub first : o.by.0 < length homes
  pub room : length (slice_index_or homes o.by.0 []) < most

-- the home of a slot was added behind others
pub record AddsHome (owners : Owners) (most j : ℕ) (old new : List (List Move)) : Type 0 where
  pub home : List Move
  pub added : new ≡ old ++ home ∷ []
  pub leads : IsHomeOf owners most j home

-- the homes of all slots are those to which owners lead back
pub record LeadHome (owners : Owners) (most : ℕ) (homes : List (List Move)) : Type 0 where
  pub size : length homes ≡ length owners
  pub each : (j : ℕ) → j < length owners → IsHomeOf owners most j (slice_index_or homes j [])

-- The homes of slots are of no more steps than a number.
pub record AreShortHomes (most : ℕ) (slots : List Slot) (homes : List Walk) : Type 0 where
  pub owned : HasProperLinks slots homes
  pub short : (i : ℕ) → i < length slots → length (home_of homes i) ≤ most

-- the most steps to an address of a schema: down all levels, and across to each later dimension
abbrev pub most_steps : Schema → ℕ
most_steps schema = schema.depth + 2 * length schema.categories + 1

-- the homes of slots are addresses of no more steps than a schema's
abbrev pub AreHomesIn : Schema → List Slot → List (List Move) → Type 0
AreHomesIn schema slots homes = AreShortHomes (most_steps schema) slots (walks_of homes)

-- slots have no such homes
abbrev pub HasNoHomesIn : Schema → List Slot → Type 0
HasNoHomesIn schema slots = (homes : List Walk) → AreShortHomes (most_steps schema) slots homes → ⊥

-- slots of which the conditions hold have such homes
abbrev pub TellsShort : Type 0
TellsShort = (schema : Schema) (slots : List Slot) (homes : List Walk) → IsSchemaLocal schema slots homes → AreShortHomes (most_steps schema) slots homes
