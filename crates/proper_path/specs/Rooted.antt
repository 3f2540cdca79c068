-- What is known of the root of a dimension, and what a trail from it leaves.
use Rattle.std.specs.Prelude.{◌≡◌, ℕ, ◌+◌, ◌-◌, suc, ◌<◌, List, [], length, get_or, drop, Some, map}
use Rattle.cube_view.specs.Walks.{Walk, SpotPath, Cursor, cursor, Under, dimension}
use Rattle.node_arena.specs.declared.link.SlotId.{SlotId}
use Rattle.node_arena.specs.Slots.{Slot}
use Rattle.node_arena.specs.Shape.{home_of, HasHomes, HasTables}
use Rattle.proper_path.specs.Order.{IsAbove}
use Rattle.proper_path.specs.Midway.{IsBetween, DoneBefore}
use Rattle.proper_path.specs.Making.{State, IsSpotOf, AllOfShape, Keeps}
use Rattle.proper_path.specs.Trails.{IsOnTrail}
use Rattle.node_arena.specs.Amounts.{Weighted, spots_in}

-- slots with their homes and an updated set
abbrev pub state : List Slot → List Walk → List ℕ → State
state slots homes updated = record { slots = slots; homes = homes; updated = updated }

-- the places of slots
abbrev pub places_of : List SlotId → List ℕ
places_of ids = map (λ (id : SlotId). id.0) ids

-- the labels of a point in the dimension of a number
abbrev pub path_at : SpotPath → ℕ → List ℕ
path_at p dim = get_or p.paths (dim - 1) []

-- slot i stands at level 0 of the dimension, and its home holds the point
pub record IsRooted (dims : ℕ) (p : Weighted) (slots : List Slot) (dim i : ℕ) (homes : List Walk) : Type 0 where
  pub has_homes : HasHomes slots homes
  pub has_tables : HasTables dims slots homes
  pub spot : IsSpotOf dims p.spot
  pub in_range : i < length slots
  pub lies : Under p.spot (home_of homes i)
  pub in_dim : dimension (home_of homes i) ≡ dim
  pub rest : (c : Cursor) → cursor p.spot (home_of homes i) ≡ Some c → c.rest ≡ path_at p.spot dim

-- homes of the slots are known for which slot i is such a root
pub record HasRoot (dims : ℕ) (p : Weighted) (slots : List Slot) (dim i : ℕ) : Type 0 where
  pub homes : List Walk
  pub known : IsRooted dims p slots dim i homes

-- The trail is made down to `at`, and so many labels of the path are gone.
pub record HasTrail (dims : ℕ) (p : Weighted) (old : List Slot) (homes : List Walk) (new : List Slot) (root at gone : ℕ) (path stack : List ℕ) : Type 0 where
  pub homes' : List Walk
  -- homes and tables stand as they have to
  pub has_homes : HasHomes new homes'
  pub has_tables : HasTables dims new homes'
  -- links outside the root's part are as before
  pub keeps : Keeps (state old homes []) (state new homes' []) (home_of homes root)
  -- the stack is a trail of proper links from the root to `at`
  pub trail : IsOnTrail (state new homes' []) p root stack
  pub some : 0 < length stack
  pub size : length stack ≡ gone + 1
  pub last : (n : ℕ) → suc n ≡ length stack → get_or stack n 0 ≡ at
  -- the point lies under the home of `at`, which is below the root in its dimension
  pub lies : Under p.spot (home_of homes' at)
  pub above : IsAbove (home_of homes root) (home_of homes' at)
  pub same_dim : dimension (home_of homes' at) ≡ dimension (home_of homes root)
  pub rest : (c : Cursor) → cursor p.spot (home_of homes' at) ≡ Some c → c.rest ≡ drop gone path
  -- the insertion invariant holds where it held
  pub between : (h : List Weighted) (updated : List ℕ) → AllOfShape (spots_in h) p.spot → IsBetween dims old homes h p (DoneBefore p (home_of homes root)) updated → IsBetween dims new homes' h p (DoneBefore p (home_of homes' at)) updated

-- for all homes that fit
abbrev pub MakesTrail : ℕ → Weighted → List Slot → List Slot → ℕ → ℕ → ℕ → ℕ → List ℕ → List ℕ → Type 0
MakesTrail dims p old new dim root at gone path stack = (homes : List Walk) → IsRooted dims p old dim root homes → HasTrail dims p old homes new root at gone path stack

-- the whole trail: the point goes no further down from its last node
abbrev pub MadeTrail : ℕ → Weighted → List Slot → List Slot → ℕ → ℕ → List ℕ → Type 0
MadeTrail dims p old new dim root stack = (homes : List Walk) → IsRooted dims p old dim root homes → (at : ℕ) × HasTrail dims p old homes new root at (length (path_at p.spot dim)) (path_at p.spot dim) stack
