-- The least cube of its records: no slot that another address could have served. It is said of a shape, whose links are
-- proper or shared (node_arena/specs/Shape.antt).
use Rattle.std.specs.Prelude.{◌≡◌, ◌≢◌, ℕ, ◌≤◌, true, ◌↔◌, List, ◌∷◌, length, Some, Contains}
use Rattle.node_arena.specs.declared.link.Link.{Link}
use Rattle.cube_view.specs.Walks.{Step, Walk, SpotPath, Under, HasSpot, IsCoarser}
use Rattle.node_arena.specs.Amounts.{Weighted, spots_in}
use Rattle.node_arena.specs.Slots.{proper, target, Slot, link_of}
use Rattle.node_arena.specs.Stats.{is_proper, node_count, table_count, proper_count, AllRising}
use Rattle.node_arena.specs.Shape.{home_of, HasShape}

-- all spots under the address lie under the other one
abbrev pub HasAllOf : List SpotPath → Walk → Walk → Type 0
HasAllOf h a to = (q : SpotPath) → Contains h q → Under q a → Under q to

-- another address is finer, which is one that goes further down in an earlier dimension, and has all spots under the
-- address
pub record HasFiner (h : List SpotPath) (a : Walk) : Type 0 where
  pub to : Walk
  pub finer : IsCoarser a to
  pub differs : a ≢ to
  pub all : HasAllOf h a to

-- a link is proper only where no finer address has all the spots under its own
abbrev pub IsLeast : List Slot → List Walk → List SpotPath → Type 0
IsLeast slots homes h = (i j : ℕ) (e : Step) → link_of slots i e ≡ Some (proper j) → HasFiner h (e ∷ home_of homes i) → ⊥

-- in every shape a link is proper where no finer address has all the spots under its own
abbrev pub TellsNeeded : Type 0
TellsNeeded = (dims : ℕ) (slots : List Slot) (homes : List Walk) (h : List Weighted) → HasShape dims slots homes h → (i : ℕ) (e : Step) (l : Link) → link_of slots i e ≡ Some l → (HasFiner (spots_in h) (e ∷ home_of homes i) → ⊥) → is_proper l ≡ true

-- the two lists have the same spots, however often
abbrev pub HaveSameSpots : List Weighted → List Weighted → Type 0
HaveSameSpots h h' = (q : SpotPath) → Contains (spots_in h) q ↔ Contains (spots_in h') q

-- the first list has no more slots, nodes, time tables or proper links than the second
pub record HasNoMore (slots slots' : List Slot) : Type 0 where
  pub all : length slots ≤ length slots'
  pub nodes : node_count slots ≤ node_count slots'
  pub tables : table_count slots ≤ table_count slots'
  pub links : AllRising slots → AllRising slots' → proper_count slots ≤ proper_count slots'

-- of all shapes with the same spots a least one has the fewest slots
abbrev pub TellsFewest : Type 0
TellsFewest = (dims : ℕ) (slots slots' : List Slot) (homes homes' : List Walk) (h h' : List Weighted) → HasShape dims slots homes h → IsLeast slots homes (spots_in h) → HasShape dims slots' homes' h' → HaveSameSpots h h' → HasNoMore slots slots'

-- the address is finer than a, or a itself, and has all spots under a, and no finer one has all spots under it
pub record IsFinestOf (h : List SpotPath) (a to : Walk) : Type 0 where
  pub finer : IsCoarser a to
  pub all : HasAllOf h a to
  pub none : HasFiner h to → ⊥

-- an address under which a spot lies has one finest address at most
abbrev pub TellsOneFinest : Type 0
TellsOneFinest = (h : List SpotPath) (a b c : Walk) → HasSpot h a → IsFinestOf h a b → IsFinestOf h a c → b ≡ c

-- in a least cube each link leads to the slot at the finest address of its own
abbrev pub TellsTargets : Type 0
TellsTargets = (dims : ℕ) (slots : List Slot) (homes : List Walk) (h : List Weighted) → HasShape dims slots homes h → IsLeast slots homes (spots_in h) → (i : ℕ) (e : Step) (l : Link) → link_of slots i e ≡ Some l → IsFinestOf (spots_in h) (e ∷ home_of homes i) (home_of homes (target l))
