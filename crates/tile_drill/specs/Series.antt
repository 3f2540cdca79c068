-- What one walk counts for the rows of a series, and how many steps it takes at most.
use Rattle.std.specs.Prelude.{◌≡◌, ℕ, ◌+◌, ◌*◌, ◌^◌, ◌<◌, ◌≤◌, Bool, List, length, slice_index}
use Rattle.cube_view.specs.Bag.{amount}
use Rattle.cube_view.specs.Costs.{ViewCosts}
use Rattle.cube_view.specs.Places.{longer, next_dim}
use Rattle.cube_view.specs.Points.{Point}
use Rattle.cube_view.specs.declared.address.Address.{Address}
use Rattle.cube_view.specs.declared.schema.Schema.{Schema}
use Rattle.cube_view.specs.declared.spot.Spot.{Spot}
use Rattle.query_syntax.specs.Boxes.{box, total}
use Rattle.query_syntax.specs.Narrowing.{with_bins}
use Rattle.query_syntax.specs.Parts.{with_span}
use Rattle.query_syntax.specs.declared.query.Span.{Span}
use Rattle.query_walk.specs.Costs.{choices_from, value_walk_cost, walk_cost}
use Rattle.query_walk.specs.Walks.{is_left, is_under_in}
use Rattle.tile_drill.specs.Costs.{ends_cost}
use Rattle.tile_drill.specs.declared.sums.Series.{Series}

-- the bins of row i, from 0
abbrev pub row_span : Series → ℕ → Span
row_span s i = record { from = s.first + i * s.wide; to = s.first + (i + 1) * s.wide }

-- for each row a test: the spot lies under the address, in a bin of the row
abbrev pub row_under : Schema → Series → Address → ℕ → Spot → Bool
row_under schema s address i = is_under_in schema address (row_span s i)

-- the same, and it is one of the series' query as far as that says from category k on
abbrev pub row_left : Schema → Series → Address → ℕ → ℕ → Spot → Bool
row_left schema s address k i = is_left schema (with_span s.query (row_span s i)) address k

-- the same, of the spots with that value of category k
abbrev pub row_at_value : Schema → Series → Address → ℕ → ℕ → ℕ → Spot → Bool
row_at_value schema s address k v = row_left schema s (next_dim (longer address v)) (k + 1)

-- each sum has gained what the list has at the spots that pass its test
pub record GainsEach (test : ℕ → Spot → Bool) (old new : List ℕ) (h : List Point) : Type 0 where
  pub long : length new ≡ length old
  pub sums : (i : ℕ) → i < length old → slice_index new i ≡ slice_index old i + amount (test i) h

-- each sum has room for that
abbrev pub FitsEach : (ℕ → Spot → Bool) → List ℕ → List Point → Type 0
FitsEach test sums h = (i : ℕ) → i < length sums → slice_index sums i + amount (test i) h < 2 ^ 64

-- the numbers are the rows' totals, a number for each row
pub record AreRowTotals (schema : Schema) (s : Series) (totals : List ℕ) (h : List Point) : Type 0 where
  pub long : length totals ≡ s.rows
  pub each : (i : ℕ) → i < s.rows → slice_index totals i ≡ total schema (with_bins (box s.query) (row_span s i).from (row_span s i).to) h

-- There is a sum for each row, and a place for the running total at each end of one: the first bin, and each row's end.
pub record HasSeriesRoom (s : Series) (ends sums : List ℕ) : Type 0 where
  pub ended : length ends ≡ s.rows + 1
  pub summed : length sums ≡ s.rows
  pub small : s.first + s.wide * (s.rows + 1) < 2 ^ 64

-- at most how many steps the walk of a series takes from an address of category k on, or of time
abbrev pub rows_cost : ViewCosts → Schema → List Point → Series → ℕ → Address → ℕ
rows_cost costs schema h s k address = walk_cost costs schema h (ends_cost costs (s.rows + 1)) (choices_from schema s.query k) address

-- the same, by that value of category k
abbrev pub row_cost_at : ViewCosts → Schema → List Point → Series → ℕ → Address → ℕ → ℕ
row_cost_at costs schema h s k address v = value_walk_cost costs schema h (ends_cost costs (s.rows + 1)) (choices_from schema s.query (k + 1)) address v
