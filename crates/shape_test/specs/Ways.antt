-- Ways on from a slot, and how the content of a node is the sum of the contents of its children.
use Rattle.std.specs.Prelude.{◌≡◌, ℕ, suc, List, [], ◌∷◌, Option, Some, sum_by}
use Rattle.cube_view.specs.Walks.{Step, down, across, Walk}
use Rattle.node_arena.specs.Reach.{count_reached}
use Rattle.node_arena.specs.Slots.{Slot, slot_of, follow, children_of}

-- steps, the first one first
abbrev pub Way : Type 0
Way = List Step

-- where a way leads from the slot that was reached, if one was
abbrev pub found : List Slot → Option ℕ → Way → Option ℕ
found slots o [] = o
found slots o (e ∷ way) = found slots (follow slots o e) way

-- the address that a way leads to
abbrev pub along : Walk → Way → Walk
along a [] = a
along a (e ∷ way) = along (e ∷ a) way

-- the count in a bin of the time table that a way leads to from a slot; 0 where it leads to none
abbrev pub count_below : List Slot → ℕ → Way → ℕ → ℕ
count_below slots i way bin = count_reached slots (found slots (Some i) way) bin

-- the way goes down n levels, and then across to each later dimension and down all its levels
abbrev pub IsFinest : ℕ → List ℕ → Way → Type 0
IsFinest n later [] = (n ≡ 0) × (later ≡ [])
IsFinest n later (down l ∷ way) = (m : ℕ) × (n ≡ suc m) × IsFinest m later way
IsFinest n later (across ∷ way) = (m : ℕ) × (rest : List ℕ) × (n ≡ 0) × (later ≡ m ∷ rest) × IsFinest m rest way

-- along a way the content of a slot counts what the contents of its children count together
abbrev pub Merges : List Slot → ℕ → Way → ℕ → Type 0
Merges slots i way bin = count_below slots i (across ∷ way) bin ≡ sum_by (λ k. count_below slots i (down k.0 ∷ across ∷ way) bin) (children_of (slot_of slots i))
