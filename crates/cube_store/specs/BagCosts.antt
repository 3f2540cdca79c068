-- The costs of a cube's calls, as numbers of the bag alone.
use Rattle.std.specs.Prelude.{◌≡◌, ℕ, ◌+◌, ◌<◌, ◌&&◌, nat_lt, eqb, List, map, filter}
use Rattle.std.specs.Set.{distinct_count}
use Rattle.probe_core.specs.Bits.{bits}
use Rattle.cube_view.specs.Costs.{ViewCosts}
use Rattle.cube_view.specs.Places.{deepest, is_under, label_of, time_dim}
use Rattle.cube_view.specs.Points.{Point, spot_of, weight_of_point}
use Rattle.cube_view.specs.declared.address.Address.{Address}
use Rattle.cube_view.specs.declared.schema.Schema.{Schema}
use Rattle.time_table.specs.Series.{each_cost}
use Rattle.cube_store.specs.Reading.{IsWalkAddress}

-- the points of a list that lie under an address and weigh something
abbrev pub weighing_under : Schema → Address → List Point → List Point
weighing_under schema a h = filter (λ p. is_under schema a (spot_of p) && nat_lt 0 (weight_of_point p)) h

-- how many labels below an address have a spot in the list
abbrev pub labels_below : Schema → Address → List Point → ℕ
labels_below schema a h = distinct_count eqb (map (λ p. label_of schema (spot_of p) a.dim (a.level + 1)) (weighing_under schema a h))

-- how many different bins the list's spots under an address have
abbrev pub bins_under : Schema → Address → List Point → ℕ
bins_under schema a h = distinct_count eqb (map (λ p. (spot_of p).bin) (weighing_under schema a h))

-- the costs that a list's bag gives: a node and a search of the labels, and a table and a search of the bins, or a look
-- at each
abbrev pub bag_costs : Schema → List Point → ViewCosts
bag_costs schema h = record {
  down_cost = λ a. 1 + bits (labels_below schema a h);
  before_cost = λ a. 2 + bits (bins_under schema a h);
  before_each_cost = λ a n. 1 + each_cost n (bins_under schema a h);
}

-- The costs are those of the list's bag, at each address that a walk comes to.
pub record AreBagCosts (schema : Schema) (costs : ViewCosts) (h : List Point) : Type 0 where
  -- above a dimension's deepest level, where `down` and `next_label` may be asked
  pub down : (a : Address) → IsWalkAddress schema a → a.level < deepest schema a.dim → costs.down_cost a ≡ (bag_costs schema h).down_cost a
  -- in time, where `before` may be asked
  pub before : (a : Address) → IsWalkAddress schema a → a.dim ≡ time_dim schema → costs.before_cost a ≡ (bag_costs schema h).before_cost a
  -- in time too, where `before_each` may be asked
  pub before_each : (a : Address) → IsWalkAddress schema a → a.dim ≡ time_dim schema → (n : ℕ) → costs.before_each_cost a n ≡ (bag_costs schema h).before_each_cost a n
