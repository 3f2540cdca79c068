-- What is known where a node is visited, and what holds once it was, or once a slot was entered.
use Rattle.std.specs.Prelude.{◌≡◌, ℕ, suc, ◌<◌, ◌^◌, true, false, ◌↔◌, List, [], ◌∷◌, length, get_or, Option, Some, None, Contains}
use Rattle.cube_view.specs.Walks.{Step, down, across, Walk, Under, dimension}
use Rattle.node_arena.specs.declared.link.Link.{Link}
use Rattle.node_arena.specs.declared.link.SlotId.{SlotId}
use Rattle.node_arena.specs.Slots.{proper, shared, target, Slot, link, link_of, slot_of, is_table, count}
use Rattle.node_arena.specs.Calls.{copied, set_content}
use Rattle.node_arena.specs.Shape.{home_of, HasOneChild}
use Rattle.proper_path.specs.Changes.{IsGrown}
use Rattle.proper_path.specs.Midway.{IsBetween, HasTwoChildren, DoneBefore, DoneAfter, Joins}
use Rattle.proper_path.specs.Making.{State, home, IsSpotOf, AllOfShape, Keeps}
use Rattle.proper_path.specs.Rooted.{state}
use Rattle.proper_path.specs.Trails.{IsOnTrail}
use Rattle.point_insert.specs.Known.{total_weight, IsEnterable}
use Rattle.node_arena.specs.Amounts.{Weighted, spots_in}

-- p's child, if p goes on in the node's dimension, is on a proper link
pub record HasPathChild (slots : List Slot) (homes : List Walk) (p : Weighted) (i : ℕ) : Type 0 where
  pub child : (l : ℕ) → Under p.spot (down l ∷ home_of homes i) → (j : ℕ) × (link_of slots i (down l) ≡ Some (proper j))

-- the node's child on p's path was visited, or there is none
pub record IsVisitableIn (dims : ℕ) (p : Weighted) (slots : List Slot) (updated : List ℕ) (dim at : ℕ) (homes : List Walk) (h : List Weighted) : Type 0 where
  pub between : IsBetween dims slots homes h p (DoneBefore p (across ∷ home_of homes at)) updated
  pub in_range : at < length slots
  pub is_node : is_table (slot_of slots at) ≡ false
  pub lies : Under p.spot (home_of homes at)
  pub path : HasPathChild slots homes p at
  pub shape : AllOfShape (spots_in h) p.spot
  pub spot : IsSpotOf dims p.spot
  pub in_dim : dimension (home_of homes at) ≡ dim
  pub light : total_weight (p ∷ h) < 2 ^ 63

-- homes and points are known for which it is so
pub record CanVisit (dims : ℕ) (p : Weighted) (slots : List Slot) (updated : List ℕ) (dim at : ℕ) : Type 0 where
  pub homes : List Walk
  pub points : List Weighted
  pub known : IsVisitableIn dims p slots updated dim at homes points

-- the visit of slot i, and of all below it, has ended; what stands outside keeps its links
pub record IsEntered (dims : ℕ) (h : List Weighted) (p : Weighted) (a : State) (i : ℕ) (b : State) : Type 0 where
  pub between : IsBetween dims b.slots b.homes h p (DoneAfter p (home a i)) b.updated
  pub keeps : Keeps a b (home a i)

-- homes are known for which a content was entered
pub record HasEntered (dims : ℕ) (h : List Weighted) (p : Weighted) (old : State) (at : ℕ) (new : List Slot) (updated : List ℕ) : Type 0 where
  pub homes' : List Walk
  pub entered : IsEntered dims h p old at (state new homes' updated)

-- the same of a node, whichever way it joins the updated set
pub record HasVisited (dims : ℕ) (h : List Weighted) (p : Weighted) (old : State) (at : ℕ) (new : List Slot) (updated : List ℕ) : Type 0 where
  pub homes' : List Walk
  pub entered : (joined : List ℕ) → Joins homes' at updated joined → IsEntered dims h p old at (state new homes' joined)

-- a content was entered, for all homes and points that fitted
abbrev pub Enters : ℕ → Weighted → List Slot → List Slot → List ℕ → List ℕ → ℕ → ℕ → Type 0
Enters dims p old new before after dim at = (homes : List Walk) (h : List Weighted) → IsEnterable dims p old before dim at homes h → HasEntered dims h p (state old homes before) at new after

-- a node was visited, for all homes and points that fitted
abbrev pub Visits : ℕ → Weighted → List Slot → List Slot → List ℕ → List ℕ → ℕ → ℕ → Type 0
Visits dims p old new before after dim at = (homes : List Walk) (h : List Weighted) → IsVisitableIn dims p old before dim at homes h → HasVisited dims h p (state old homes before) at new after

-- what only_child tells
abbrev pub TellsOnlyChild : List Slot → ℕ → Option Link → Type 0
TellsOnlyChild slots i None = (label : ℕ) (l : Link) → link_of slots i (down label) ≡ Some l → HasTwoChildren slots i
TellsOnlyChild slots i (Some l) = (label : ℕ) × HasOneChild slots i label l

-- the place of a slot, if there is one
abbrev pub place_of : Option SlotId → Option ℕ
place_of None = None
place_of (Some id) = Some id.0

-- the content is proper, of its own, or was copied or added; or it is shared and was updated, and nothing was done
pub data IsFilled (dims next : ℕ) (updated : List ℕ) (old : List Slot) (i : ℕ) (new : List Slot) : Option ℕ → Type 0 where
  had : {j : ℕ} → link_of old i across ≡ Some (proper j) → new ≡ old → IsFilled dims next updated old i new (Some j)
  copies : {j : ℕ} (t : ℕ) → link_of old i across ≡ Some (shared t) → (Contains updated t → ⊥) → j ≡ length old → IsGrown old new i across (copied (slot_of old t)) → IsFilled dims next updated old i new (Some j)
  adds : {j : ℕ} (s : Slot) → link_of old i across ≡ None → ((f : Step) → link s f ≡ None) → ((bin : ℕ) → count s bin ≡ 0) → ((is_table s ≡ true) ↔ (next ≡ dims)) → j ≡ length old → IsGrown old new i across s → IsFilled dims next updated old i new (Some j)
  skips : (t : ℕ) → link_of old i across ≡ Some (shared t) → Contains updated t → new ≡ old → IsFilled dims next updated old i new None

-- the content is the node's own, whatever was updated
abbrev pub Fills : ℕ → ℕ → List Slot → ℕ → List Slot → ℕ → Type 0
Fills dims next old i new j = (updated : List ℕ) → IsFilled dims next updated old i new (Some j)

-- the content is a copy of the node's own, if the original was not updated
abbrev pub FillsByCopy : ℕ → List Slot → ℕ → List Slot → ℕ → Type 0
FillsByCopy from old i new j = (dims next : ℕ) (updated : List ℕ) → (Contains updated from → ⊥) → IsFilled dims next updated old i new (Some j)

-- the rest of a trail, its last node next: all is visited, or the last node can be
pub data IsLeft (dims : ℕ) (h : List Weighted) (p : Weighted) (old : State) (dim root : ℕ) (new : List Slot) (updated : List ℕ) (stack : List ℕ) : Type 0 where
  none_left : stack ≡ [] → HasVisited dims h p old root new updated → IsLeft dims h p old dim root new updated stack
  some_left : (homes' : List Walk) (at : ℕ) → Keeps old (state new homes' updated) (home old root) → IsOnTrail (state new homes' updated) p root stack → 0 < length stack → ((n : ℕ) → suc n ≡ length stack → get_or stack n 0 ≡ at) → IsVisitableIn dims p new updated dim at homes' h → IsLeft dims h p old dim root new updated stack

-- so much of a trail is left, for all homes and points that fitted
abbrev pub Leaves : ℕ → Weighted → List Slot → List Slot → List ℕ → List ℕ → ℕ → ℕ → List ℕ → Type 0
Leaves dims p old new before after dim root stack = (homes : List Walk) (h : List Weighted) → IsEnterable dims p old before dim root homes h → IsLeft dims h p (state old homes before) dim root new after stack

-- everything at and below the root was visited, for all homes and points that fitted
abbrev pub VisitsAll : ℕ → Weighted → List Slot → List Slot → List ℕ → List ℕ → ℕ → ℕ → Type 0
VisitsAll dims p old new before after dim root = (homes : List Walk) (h : List Weighted) → IsEnterable dims p old before dim root homes h → HasVisited dims h p (state old homes before) root new after

-- the node shares the child's content
abbrev pub SharesOf : List Slot → List Slot → ℕ → Link → Type 0
SharesOf old new at k = (w : Link) → link_of old (target k) across ≡ Some w → new ≡ set_content old at (Some (shared (target w)))
