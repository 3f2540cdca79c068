-- What the insertion of a group does to the slots of a cube.
use Rattle.std.specs.Prelude.{◌≡◌, ℕ, ◌<◌, ◌^◌, IsTrue, List, ◌++◌, All, Contains, length}
use Rattle.cube_view.specs.Places.{time_dim}
use Rattle.cube_view.specs.Points.{Point}
use Rattle.cube_view.specs.Validity.{sound}
use Rattle.cube_view.specs.Walks.{Walk}
use Rattle.cube_view.specs.declared.schema.Schema.{Schema}
use Rattle.node_arena.specs.Amounts.{Weighted, spots_in}
use Rattle.node_arena.specs.Shape.{HasShape}
use Rattle.node_arena.specs.Slots.{Slot}
use Rattle.least_cube.specs.Least.{IsLeast}
use Rattle.point_insert.specs.Known.{total_weight}
use Rattle.proper_path.specs.Making.{IsSpotOf, AllOfShape}
use Rattle.proper_path.specs.Paths.{paths_of}

-- the slots have a cube's shape over the points h, and those of g may join them
pub record IsInsertableAll (dims : ℕ) (g : List Weighted) (slots : List Slot) (homes : List Walk) (h : List Weighted) : Type 0 where
  pub shape : HasShape dims slots homes h
  -- all have as many labels in each dimension, and there is one dimension for each path
  pub alike : (w : Weighted) → Contains g w → AllOfShape (spots_in (g ++ h)) w.spot
  pub spots : (w : Weighted) → Contains g w → IsSpotOf dims w.spot
  -- all together weigh little
  pub light : total_weight (g ++ h) < 2 ^ 63

-- homes and points are known for which it is so
pub record CanInsertAll (dims : ℕ) (g : List Weighted) (slots : List Slot) : Type 0 where
  pub homes : List Walk
  pub points : List Weighted
  pub known : IsInsertableAll dims g slots homes points

-- points of a group may be added at the root
pub record TakesGroup (schema : Schema) (points : List Point) (slots : List Slot) (root : ℕ) : Type 0 where
  -- each of them is sound
  pub all_sound : All (λ p. IsTrue (sound schema p)) points
  -- there is one
  pub some : 0 < length points
  -- the root is the first slot
  pub at_first : root ≡ 0
  -- they may join the points over which the slots have the shape
  pub known : ∥ CanInsertAll (time_dim schema) (paths_of schema points) slots ∥₁

-- homes are known with which the slots have the shape over these points
pub record HasInserted (dims : ℕ) (h : List Weighted) (slots : List Slot) : Type 0 where
  pub homes : List Walk
  pub shape : HasShape dims slots homes h

-- homes are known with which the new slots have the shape with the group, and a cube that was the least one stays so
pub record HasInsertedAll (dims : ℕ) (g : List Weighted) (old : List Slot) (homes : List Walk) (h : List Weighted) (new : List Slot) : Type 0 where
  pub homes' : List Walk
  pub shape : HasShape dims new homes' (g ++ h)
  pub least : IsLeast old homes (spots_in h) → IsLeast new homes' (spots_in (g ++ h))

-- that is so for all homes and points that fitted
abbrev pub InsertsAll : ℕ → List Weighted → List Slot → List Slot → Type 0
InsertsAll dims g old new = (homes : List Walk) (h : List Weighted) → IsInsertableAll dims g old homes h → HasInsertedAll dims g old homes h new
