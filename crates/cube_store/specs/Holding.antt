-- What a cube counts, and what its calls cost, said of the list that it counts.
use Rattle.std.specs.Prelude.{◌≡◌, ℕ, ◌+◌, ◌<◌, ◌≤◌, List, All}
use Rattle.cube_view.specs.Bag.{EachCounted}
use Rattle.cube_view.specs.Costs.{address_cost}
use Rattle.cube_view.specs.Places.{label_of}
use Rattle.cube_view.specs.Points.{Point, spot_of}
use Rattle.cube_view.specs.declared.address.Address.{Address}
use Rattle.cube_view.specs.declared.schema.Schema.{Schema}
use Rattle.cube_store.specs.BagCosts.{AreBagCosts, bag_costs, bins_under, labels_below}
use Rattle.cube_store.specs.Counted.{CountsLeast, CountsPoints}
use Rattle.cube_store.specs.Reading.{IsWalkAddress, spot_weight, cube_costs}
use Rattle.cube_store.specs.declared.cube.Cube.{Cube}

-- the cube counts the points of the list
abbrev pub CubeCounts : Cube → List Point → Type 0
CubeCounts cube h = CountsPoints cube.schema cube.arena cube.root.0 cube.size h

-- the cube is the least one that counts the points of the list
abbrev pub IsLeastCubeOf : Cube → List Point → Type 0
IsLeastCubeOf cube h = CountsLeast cube.schema cube.arena cube.root.0 cube.size h

-- the costs of a cube are numbers of each list that its bag counts
abbrev pub TellsCosts : Type 0
TellsCosts = (cube : Cube) → EachCounted (spot_weight cube.schema cube.arena) cube.size (AreBagCosts cube.schema (cube_costs cube.arena))

-- what a walk to an address costs in a cube is what it costs by the bag of each list that is counted
abbrev pub TellsWalkCosts : Type 0
TellsWalkCosts = (cube : Cube) → EachCounted (spot_weight cube.schema cube.arena) cube.size (λ h. (a : Address) → IsWalkAddress cube.schema a → address_cost (cube_costs cube.arena) cube.schema h a ≡ address_cost (bag_costs cube.schema h) cube.schema h a)

-- where all spots of a list have bins, or labels below an address, that are under a number, no more are counted
abbrev pub BoundsBagCosts : Type 0
BoundsBagCosts = (schema : Schema) (h : List Point) (a : Address) (n : ℕ) →
    (All (λ p. (spot_of p).bin < n) h → bins_under schema a h ≤ n)
    × (All (λ p. label_of schema (spot_of p) a.dim (a.level + 1) < n) h → labels_below schema a h ≤ n)
