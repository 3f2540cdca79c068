-- Spots and addresses as walks see them: the paths of a spot, and the steps that lead to an address.
use Rattle.std.specs.Prelude.{◌≡◌, ℕ, zero, suc, ◌+◌, ◌-◌, ◌≤◌, IsTrue, List, [], ◌∷◌, length, Option, Some, None, slice_index_or}
use Rattle.cube_view.specs.Places.{time_dim, deepest, label_of, is_under, tile_label, IsAddress}
use Rattle.cube_view.specs.Validity.{fits}
use Rattle.cube_view.specs.Walks.{down, across, Walk, SpotPath, under}
use Rattle.cube_view.specs.declared.address.Address.{Address}
use Rattle.cube_view.specs.declared.address.Tile.{Tile}
use Rattle.cube_view.specs.declared.schema.Schema.{Schema}
use Rattle.cube_view.specs.declared.spot.Spot.{Spot}

-- the labels of a spot in a dimension at n levels from this one on
abbrev pub labels_from : Schema → Spot → ℕ → ℕ → ℕ → List ℕ
labels_from schema s dim level zero = []
labels_from schema s dim level (suc n) = label_of schema s dim level ∷ labels_from schema s dim (level + 1) n

-- the path of a spot in a dimension: its labels from level 1 to the deepest
abbrev pub path_of : Schema → Spot → ℕ → List ℕ
path_of schema s dim = labels_from schema s dim 1 (deepest schema dim)

-- the paths of a spot in n dimensions from this one on
abbrev pub paths_from : Schema → Spot → ℕ → ℕ → List (List ℕ)
paths_from schema s dim zero = []
paths_from schema s dim (suc n) = path_of schema s dim ∷ paths_from schema s (dim + 1) n

-- a spot of the schema as walks see it
abbrev pub spot_path : Schema → Spot → SpotPath
spot_path schema s = record { paths = paths_from schema s 1 (time_dim schema); bin = s.bin }

-- the downs on the way to a tile, to a level of it
abbrev pub steps_in_space : Tile → ℕ → Walk
steps_in_space t zero = []
steps_in_space t (suc level) = down (tile_label t (level + 1)) ∷ steps_in_space t level

-- the down for a value, if there is one
abbrev pub value_step : Option ℕ → Walk → Walk
value_step None walk = walk
value_step (Some v) walk = down v ∷ walk

-- from a tile on across k dimensions, down by each value that is Some
abbrev pub steps_across : Tile → List (Option ℕ) → ℕ → Walk
steps_across t values zero = steps_in_space t t.z
steps_across t values (suc k) = value_step (slice_index_or values k None) (across ∷ steps_across t values k)

-- the steps that lead from the top to an address
abbrev pub steps_of : Address → Walk
steps_of a = steps_across a.tile a.values (a.dim - 1)

-- There are no values past the categories, nor past the address's own dimension.
pub record IsOpenBeyond (schema : Schema) (a : Address) : Type 0 where
  -- past the categories
  pub past : (k : ℕ) → length schema.categories ≤ k → slice_index_or a.values k None ≡ None
  -- past the address's dimension
  pub later : (k : ℕ) → a.dim ≤ k + 1 → slice_index_or a.values k None ≡ None

-- a spot lies under an address exactly where its path lies under the address's steps
abbrev pub StepsTellSpots : Type 0
StepsTellSpots = (schema : Schema) (a : Address) (s : Spot) → IsAddress schema a → IsOpenBeyond schema a → IsTrue (fits schema s) → under (spot_path schema s) (steps_of a) ≡ is_under schema a s
