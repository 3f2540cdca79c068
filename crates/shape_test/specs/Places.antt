-- Where an address stands among the dimensions of a schema.
use Rattle.std.specs.Prelude.{◌≡◌, ℕ, ◌+◌, ◌-◌, ◌<◌, ◌≤◌, IsTrue, ◌&&◌, nat_lt, if◌then◌else◌, List, [], ◌∷◌, length, slice_index_or, Option, Some, None}
use Rattle.cube_view.specs.Places.{deepest, time_dim}
use Rattle.cube_view.specs.Walks.{Step, down, across, Walk, dimension}
use Rattle.cube_view.specs.declared.schema.Schema.{Schema}
use Rattle.node_arena.specs.Shape.{home_of}
use Rattle.shape_test.specs.Levels.{Levels, left}
use Rattle.shape_test.specs.Local.{HasLevels}
use Rattle.shape_test.specs.Labels.{levels_from, schema_levels, label_fits, labels_fit}
use Rattle.shape_test.specs.declared.place.Place.{Place}

-- the place after a step, if the schema has one there
abbrev pub next_place : Schema → Place → Step → Option Place
next_place schema p (down l) = if (nat_lt p.level (deepest schema p.dim) && label_fits schema p.dim l) then Some (record { dim = p.dim; level = p.level + 1 }) else None
next_place schema p across = if nat_lt p.dim (time_dim schema) then Some (record { dim = p.dim + 1; level = 0 }) else None

-- the place after a step from a place, if there was one
abbrev pub then_place : Schema → Option Place → Step → Option Place
then_place schema None e = None
then_place schema (Some p) e = next_place schema p e

-- the place of an address
abbrev pub place_at : Schema → Walk → Option Place
place_at schema [] = Some (record { dim = 1; level = 0 })
place_at schema (e ∷ a) = then_place schema (place_at schema a) e

-- the levels that are left at a place
abbrev pub levels_at : Schema → Place → Levels
levels_at schema p = record { rest = deepest schema p.dim - p.level; later = levels_from schema (p.dim + 1) (time_dim schema - p.dim) }

-- the place is one of the schema
pub record IsSchemaPlace (schema : Schema) (p : Place) : Type 0 where
  pub dim : (1 ≤ p.dim) × (p.dim ≤ time_dim schema)
  pub level : p.level ≤ deepest schema p.dim

-- The address stands at the place, and has labels of the schema.
pub record IsPlaceOf (schema : Schema) (a : Walk) (p : Place) : Type 0 where
  pub placed : IsSchemaPlace schema p
  pub dim : dimension a ≡ p.dim
  pub levels : left (schema_levels schema) a ≡ Some (levels_at schema p)
  pub labels : IsTrue (labels_fit schema a)

-- the address goes past the levels, or has a label that the schema has not
abbrev pub IsOutside : Schema → Walk → Type 0
IsOutside schema a = HasLevels (schema_levels schema) a → IsTrue (labels_fit schema a) → ⊥

-- the places are those of the first homes
abbrev pub AreFirstPlaces : Schema → List Walk → List Place → Type 0
AreFirstPlaces schema homes places = (i : ℕ) (d : Place) → i < length places → place_at schema (home_of homes i) ≡ Some (slice_index_or places i d)

-- the places are those of all homes
pub record ArePlaces (schema : Schema) (homes : List Walk) (places : List Place) : Type 0 where
  pub size : length places ≡ length homes
  pub each : AreFirstPlaces schema homes places

-- some home has no place
pub record HasOutside (schema : Schema) (homes : List Walk) : Type 0 where
  pub slot : ℕ
  pub within : slot < length homes
  pub none : place_at schema (home_of homes slot) ≡ None
