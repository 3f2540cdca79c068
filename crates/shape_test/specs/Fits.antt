-- Which slots, with which size, fit a schema.
use Rattle.std.specs.Prelude.{◌≡◌, ℕ, ◌+◌, ◌-◌, ◌/◌, ◌<◌, ◌≤◌, IsTrue, List, length, None, Contains, sum_by}
use Rattle.cube_view.specs.Bag.{most_points}
use Rattle.cube_view.specs.Places.{time_dim}
use Rattle.cube_view.specs.Points.{heaviest}
use Rattle.cube_view.specs.Walks.{Walk, SpotPath}
use Rattle.cube_view.specs.declared.schema.Schema.{Schema}
use Rattle.node_arena.specs.Amounts.{Weighted, spots_in}
use Rattle.node_arena.specs.Shape.{home_of}
use Rattle.node_arena.specs.Slots.{Slot}
use Rattle.shape_test.specs.Local.{IsLocal}
use Rattle.shape_test.specs.Wholes.{spelled_bag, IsCubeOf}
use Rattle.shape_test.specs.Labels.{schema_levels, labels_fit, paths_fit}

-- the slots are a cube of the spots with the amounts, and each label of the spots is one of the schema
pub record IsSchemaCube (schema : Schema) (slots : List Slot) (homes : List Walk) (h : List Weighted) : Type 0 where
  pub cube : IsCubeOf (time_dim schema) (schema_levels schema) slots homes h
  pub labels : (q : SpotPath) → Contains (spots_in h) q → IsTrue (paths_fit schema 1 q.paths)

-- the bag of the slots: the spots that their time tables count, each once
abbrev pub slots_bag : Schema → List Slot → List Walk → List Weighted
slots_bag schema slots homes = spelled_bag (schema_levels schema) slots homes

-- what the spots weigh together
abbrev pub bag_sum : List Weighted → ℕ
bag_sum h = sum_by (λ w. w.amount) h

-- the fewest points that weigh so much together
abbrev pub least_points : ℕ → ℕ
least_points n = (n + (heaviest - 1)) / heaviest

-- the fewest points that have the bag
abbrev pub least_size : List Weighted → ℕ
least_size h = sum_by (λ w. least_points w.amount) h

-- Some list of that many points of the schema has the bag.
pub record IsSizeOf (schema : Schema) (h : List Weighted) (size : ℕ) : Type 0 where
  -- each point weighs at least 1, and at most the most
  pub most : size ≤ bag_sum h
  pub least : least_size h ≤ size
  -- no more points than a cube may count
  pub few : size ≤ most_points
  -- without a weight column each point weighs 1
  pub unweighted : schema.weight ≡ None → size ≡ bag_sum h

-- The slots with the size fit the schema: they are a cube of their bag, and some list of so many points has the bag.
pub record Fits (schema : Schema) (slots : List Slot) (size : ℕ) : Type 0 where
  pub homes : List Walk
  pub cube : IsSchemaCube schema slots homes (slots_bag schema slots homes)
  pub sized : IsSizeOf schema (slots_bag schema slots homes) size

-- The conditions on single slots: those of a cube, and each label of a home is one of the schema.
pub record IsSchemaLocal (schema : Schema) (slots : List Slot) (homes : List Walk) : Type 0 where
  pub local : IsLocal (time_dim schema) (schema_levels schema) slots homes
  pub labels : (i : ℕ) → i < length slots → IsTrue (labels_fit schema (home_of homes i))
