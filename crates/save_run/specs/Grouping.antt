-- A cube and the points that follow those that it counts.
use Rattle.std.specs.Prelude.{◌≡◌, ℕ, ◌+◌, ◌<◌, List, ◌++◌, length}
use Rattle.cube_store.specs.Holding.{CubeCounts, IsLeastCubeOf}
use Rattle.cube_store.specs.declared.cube.Cube.{Cube}
use Rattle.cube_view.specs.Bag.{CountsMore}
use Rattle.cube_view.specs.Points.{Point}
use Rattle.save_run.specs.declared.grouped_cube.GroupedCube.{GroupedCube}

-- how many points there are, inserted and gathered
abbrev pub grouped_size : GroupedCube → ℕ
grouped_size grouped = grouped.cube.size + length grouped.gathered.items

-- This is said of the cube and the front of the list, and the gathered points follow
pub record HasFront (Says : Cube → List Point → Type 0) (grouped : GroupedCube) (h : List Point) : Type 0 where
  -- the points that were inserted
  pub front : List Point
  pub inserted : Says grouped.cube front
  pub all : h ≡ front ++ grouped.gathered.items

-- the list is counted: the cube counts its front
abbrev pub GroupsCount : GroupedCube → List Point → Type 0
GroupsCount = HasFront CubeCounts

-- the list is counted, and the cube is the least one of its front
abbrev pub GroupsLeast : GroupedCube → List Point → Type 0
GroupsLeast = HasFront IsLeastCubeOf

-- The points were taken
pub record GroupsTake (before after : GroupedCube) (points : List Point) : Type 0 where
  -- each list that is counted before is counted afterwards with these points behind it
  pub counted : CountsMore (GroupsCount before) (GroupsCount after) points
  -- and with a batch of several points the cube stays the least one
  pub least : 1 < before.cube.schema.batch → CountsMore (GroupsLeast before) (GroupsLeast after) points
