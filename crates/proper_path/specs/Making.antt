-- A link of a node is made proper: the arena with the homes of its slots, before and after.
use Rattle.std.specs.Prelude.{◌≡◌, ℕ, ◌-◌, ◌<◌, ◌≤◌, true, ◌↔◌, List, [], ◌∷◌, ◌++◌, length, get_or, Some, None, Contains}
use Rattle.cube_view.specs.Walks.{Step, across, Walk, SpotPath, dimension}
use Rattle.proper_path.specs.Order.{IsAbove, shape_of}
use Rattle.node_arena.specs.Slots.{proper, shared, Slot, link, link_of, slot_of, count, is_table}
use Rattle.node_arena.specs.Calls.{copied}
use Rattle.node_arena.specs.Shape.{home_of}
use Rattle.proper_path.specs.Changes.{IsGrown}

-- the point's paths are one for each dimension up to time's, which is number `dims` and has no labels
pub record IsSpotOf (dims : ℕ) (q : SpotPath) : Type 0 where
  pub size : length q.paths ≡ dims
  pub some : 0 < dims
  pub time : get_or q.paths (dims - 1) [] ≡ []

-- all points of the list have as many labels in each dimension as p
abbrev pub AllOfShape : List SpotPath → SpotPath → Type 0
AllOfShape h p = (q : SpotPath) → Contains h q → shape_of q ≡ shape_of p

-- the arena, with the homes of its slots, and the updated set
pub record State : Type 0 where
  pub slots : List Slot
  pub homes : List Walk
  pub updated : List ℕ

abbrev pub home : State → ℕ → Walk
home a i = home_of a.homes i

-- slot s was added for the link at i and e
pub record AddsSlot (a : State) (i : ℕ) (e : Step) (s : Slot) (j : ℕ) (b : State) : Type 0 where
  pub is : j ≡ length a.slots
  pub grown : IsGrown a.slots b.slots i e s
  pub homes : b.homes ≡ a.homes ++ (e ∷ home a i) ∷ []
  pub updated : b.updated ≡ a.updated

-- the link at i and e is made to lead properly to a slot j: it does, or its shared target is copied, or an empty slot
-- is added
pub data Makes (dims : ℕ) (a : State) (i : ℕ) (e : Step) (j : ℕ) (b : State) : Type 0 where
  has : link_of a.slots i e ≡ Some (proper j) → b ≡ a → Makes dims a i e j b
  copies : (t : ℕ) → link_of a.slots i e ≡ Some (shared t) → (e ≡ across → Contains a.updated t → ⊥) → AddsSlot a i e (copied (slot_of a.slots t)) j b → Makes dims a i e j b
  adds : (s : Slot) → link_of a.slots i e ≡ None → ((f : Step) → link s f ≡ None) → ((bin : ℕ) → count s bin ≡ 0) → ((is_table s ≡ true) ↔ (dimension (e ∷ home a i) ≡ dims)) → AddsSlot a i e s j b → Makes dims a i e j b

-- what stands outside x keeps its links
pub record Keeps (a b : State) (x : Walk) : Type 0 where
  pub size : length a.slots ≤ length b.slots
  pub homes : (j : ℕ) → j < length a.slots → home b j ≡ home a j
  pub links : (j : ℕ) (f : Step) → j < length a.slots → (IsAbove x (home a j) → ⊥) → link_of b.slots j f ≡ link_of a.slots j f
  pub kinds : (j : ℕ) → j < length a.slots → is_table (slot_of b.slots j) ≡ is_table (slot_of a.slots j)
