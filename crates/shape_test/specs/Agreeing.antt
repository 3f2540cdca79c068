-- What is asked along finest ways, so that a node's content counts what its children's contents count together.
use Rattle.std.specs.Prelude.{ℕ, zero, suc, ◌<◌, List, [], ◌∷◌}
use Rattle.cube_view.specs.Places.{deepest}
use Rattle.cube_view.specs.declared.schema.Schema.{Schema}
use Rattle.node_arena.specs.Slots.{Slot}
use Rattle.shape_test.specs.Ways.{Way, IsFinest, Merges}
use Rattle.shape_test.specs.declared.place.Place.{Place}
use Rattle.shape_test.specs.Places.{levels_at}

-- how many levels n categories and then time have
abbrev pub value_levels : ℕ → List ℕ
value_levels zero = 0 ∷ []
value_levels (suc n) = 1 ∷ value_levels n

-- the way goes down all levels of dimensions, and across from each to the next
abbrev pub IsOver : List ℕ → Way → Type 0
IsOver [] way = ⊥
IsOver (n ∷ later) way = IsFinest n later way

-- along all ways behind n categories the content of a node counts in each bin what the contents of its children count
-- together
abbrev pub MergesOver : List Slot → ℕ → ℕ → Type 0
MergesOver slots i n = (way : Way) → IsOver (value_levels n) way → (bin : ℕ) → Merges slots i way bin

-- so it is along each finest way from a node at a place, unless that is its dimension's deepest
abbrev pub MergesFrom : Schema → List Slot → ℕ → Place → Type 0
MergesFrom schema slots i p = p.level < deepest schema p.dim → (way : Way) → IsOver (levels_at schema p).later way → (bin : ℕ) → Merges slots i way bin
