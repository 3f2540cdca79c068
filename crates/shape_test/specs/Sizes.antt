-- The size of slots that fit a schema, and the points that have their bag.
use Rattle.std.specs.Prelude.{◌≡◌, ℕ, ◌<◌, ◌≤◌, ◌^◌, IsTrue, List, All, length, map, sum_by}
use Rattle.std.specs.FinMap.{entries}
use Rattle.cube_view.specs.Bag.{most_points}
use Rattle.cube_view.specs.Paths.{spot_path}
use Rattle.cube_view.specs.Places.{time_dim}
use Rattle.cube_view.specs.Points.{Point, spot_of, weight_of_point}
use Rattle.cube_view.specs.Validity.{valid}
use Rattle.cube_view.specs.Walks.{Walk}
use Rattle.cube_view.specs.declared.schema.Schema.{Schema}
use Rattle.time_table.specs.Counts.{BinCounts, total_count}
use Rattle.node_arena.specs.Amounts.{Weighted}
use Rattle.node_arena.specs.Shape.{home_of, HasShape}
use Rattle.node_arena.specs.Slots.{Slot, slot_of, counts_of}
use Rattle.node_arena.specs.Stats.{capped}
use Rattle.shape_test.specs.Laws.{AllTablesCounted}
use Rattle.shape_test.specs.Filled.{HasSmallBins}
use Rattle.shape_test.specs.Fits.{bag_sum, least_points, least_size, Fits}
use Rattle.shape_test.specs.Homes.{walks_of}
use Rattle.shape_test.specs.Labels.{labels_fit}
use Rattle.shape_test.specs.Places.{ArePlaces}
use Rattle.shape_test.specs.declared.home.Move.{Move}
use Rattle.shape_test.specs.declared.place.Place.{Place}
use Rattle.shape_test.specs.declared.size.BagSize.{BagSize}

-- each label of each home is one of the schema
abbrev pub HasLabels : Schema → List Slot → List Walk → Type 0
HasLabels schema slots homes = (i : ℕ) → i < length slots → IsTrue (labels_fit schema (home_of homes i))

-- Slots with homes and places of a schema, of whose bag the size can be told.
pub record AreSizable (schema : Schema) (slots : List Slot) (homes : List (List Move)) (places : List Place) : Type 0 where
  pub few : length slots < 2 ^ 32
  -- each slot has a home, and this a place
  pub size : length homes ≡ length slots
  pub placed : ArePlaces schema (walks_of homes) places
  -- each label is one of the schema
  pub labels : HasLabels schema slots (walks_of homes)
  -- each bin has 32 bits
  pub bins : HasSmallBins slots

-- both numbers, as far as 64 bits count
abbrev pub capped_size : ℕ → ℕ → BagSize
capped_size sum least = record { sum = capped sum; least = capped least }

-- what the rows of a table weigh, and how many points they are at least
abbrev pub table_size : BinCounts → BagSize
table_size m = capped_size (sum_by (λ e. e.1) (entries m)) (sum_by (λ e. least_points e.1) (entries m))

-- what a bag weighs, and how many points have it at least
abbrev pub size_of : List Weighted → BagSize
size_of h = capped_size (bag_sum h) (least_size h)

-- points as walks see them: their labels in each dimension up to time, their bins and their weights
abbrev pub seen_points : Schema → List Point → List Weighted
seen_points schema points = map (λ (p : Point). record { spot = spot_path schema (spot_of p); amount = weight_of_point p }) points

-- The slots are a cube of so many points of the schema.
pub record IsOfPoints (schema : Schema) (slots : List Slot) (size : ℕ) : Type 0 where
  pub homes : List Walk
  pub points : List Point
  pub shape : HasShape (time_dim schema) slots homes (seen_points schema points)
  -- each is a record of the schema, and has four values
  pub all_valid : All (λ p. IsTrue (valid schema p)) points
  pub all_four : All (λ p. length (spot_of p).values ≡ 4) points
  -- there are as many as the size says, and no more than a cube may count
  pub number : size ≡ length points
  pub few : size ≤ most_points

-- slots that fit a schema are a cube of so many points
abbrev pub TellsPoints : Type 0
TellsPoints = (schema : Schema) (slots : List Slot) (size : ℕ) → length schema.categories ≤ 4 → Fits schema slots size → IsOfPoints schema slots size

-- no table of slots that fit a schema counts more records than one can hold
abbrev pub TellsLight : Type 0
TellsLight = (schema : Schema) (slots : List Slot) (size : ℕ) → AllTablesCounted slots → Fits schema slots size → (i : ℕ) → i < length slots → total_count (counts_of (slot_of slots i)) ≤ 2 ^ 63
