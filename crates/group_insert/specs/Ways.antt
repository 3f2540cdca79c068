-- The way of a visit from the node of space: the values that were gone down, and the slot at level 0 of each dimension.
use Rattle.std.specs.Prelude.{◌≡◌, ℕ, zero, suc, ◌+◌, ◌<◌, ◌≤◌, ◌⊎◌, List, [], ◌∷◌, ◌++◌, Option, None, length, slice_index_or}
use Rattle.cube_view.specs.Paths.{value_step}
use Rattle.cube_view.specs.Walks.{across, Walk, dimension}
use Rattle.node_arena.specs.Shape.{home_of}
use Rattle.node_arena.specs.Slots.{Slot}
use Rattle.proper_path.specs.Paths.{level_of}

-- the value that was gone down in a dimension, if one was
abbrev pub value_gone : List (Option ℕ) → ℕ → Option ℕ
value_gone values dim = slice_index_or values dim None

-- the steps from the content of a slot of dimension f, through n dimensions, the last one first
abbrev pub way_from : List (Option ℕ) → ℕ → ℕ → Walk
way_from values f zero = []
way_from values f (suc n) = across ∷ value_step (value_gone values (f + suc n)) (way_from values f n)

-- no label has been gone down in the dimension, or it is space
abbrev pub IsOpenIn : List (Option ℕ) → ℕ → Type 0
IsOpenIn values f = (f ≡ 1) ⊎ (value_gone values f ≡ None)

-- slot `root` of dimension f stands on the way to slot i, n dimensions on; that of space has the level
pub record IsRootOn (slots : List Slot) (homes : List Walk) (values : List (Option ℕ)) (level f n root i : ℕ) : Type 0 where
  pub in_range : root < length slots
  pub in_dim : dimension (home_of homes root) ≡ f
  pub at_level : (f ≡ 1 → level_of (home_of homes root) ≡ level) × ((f ≡ 1 → ⊥) → level_of (home_of homes root) ≡ 0)
  pub leads : across ∷ home_of homes i ≡ way_from values f n ++ across ∷ home_of homes root

-- the roots of all open dimensions up to that of slot i stand so
abbrev pub IsWayTo : List Slot → List Walk → List (Option ℕ) → List ℕ → ℕ → ℕ → ℕ → Type 0
IsWayTo slots homes values roots level dim i = (f n : ℕ) → 1 ≤ f → f + n ≡ dim → IsOpenIn values f → IsRootOn slots homes values level f n (slice_index_or roots f 0) i
