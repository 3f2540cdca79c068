-- How many steps a cross table and the best tiles take at most, by the costs that a view gives its addresses and the
-- list that it counts.
use Rattle.std.specs.Prelude.{ℕ, ◌+◌, List}
use Rattle.std.specs.List.{sum_by}
use Rattle.cube_view.specs.Costs.{ViewCosts}
use Rattle.cube_view.specs.Points.{Point}
use Rattle.cube_view.specs.declared.schema.Schema.{Schema}
use Rattle.query_syntax.specs.CrossTables.{values_of_category}
use Rattle.query_syntax.specs.Parts.{with_one_value}
use Rattle.query_syntax.specs.declared.query.Query.{Query}
use Rattle.query_syntax.specs.declared.query.Verb.{Verb}
use Rattle.query_syntax.specs.declared.query.Verb.TheVariants.{Count, Hist, Map, Series, Window, Cross, Best, Stat, Told, Quit}
use Rattle.query_walk.specs.Costs.{from_region_cost, map_cost, region_cost}

-- the query, with value v alone in its set of category k, and value w alone in that of category l
abbrev pub with_two_values : Query → ℕ → ℕ → ℕ → ℕ → Query
with_two_values q k l v w = with_one_value (with_one_value q k v) l w

module _ (costs : ViewCosts) (schema : Schema) (h : List Point) (q : Query) where
  -- the row of two values: the walk from the region on with these two alone
  abbrev pub pair_cost : ℕ → ℕ → ℕ → ℕ → ℕ
  pair_cost k l v w = from_region_cost costs schema h (with_two_values q k l v w)

  -- the rows within a value of category k: one for each value of category l
  abbrev pub within_cost : ℕ → ℕ → ℕ → ℕ
  within_cost k l v = sum_by (pair_cost k l v) (values_of_category schema l)

  -- the rows of categories k and l: one walk to the region, and those within each value of category k
  abbrev pub pairs_cost : ℕ → ℕ → ℕ
  pairs_cost k l = region_cost costs schema h q + sum_by (within_cost k l) (values_of_category schema k)

  -- the cross table of a verb; another verb has none
  abbrev pub cross_cost : Verb → ℕ
  cross_cost Count = 0
  cross_cost (Hist k) = 0
  cross_cost (Map down) = 0
  cross_cost (Series from wide rows) = 0
  cross_cost (Window rect) = 0
  cross_cost (Cross k l) = pairs_cost k l
  cross_cost (Best down rows) = 0
  cross_cost Stat = 0
  cross_cost Told = 0
  cross_cost Quit = 0

  -- the best tiles of a verb: the map so many levels down; another verb has none
  abbrev pub best_cost : Verb → ℕ
  best_cost Count = 0
  best_cost (Hist k) = 0
  best_cost (Map down) = 0
  best_cost (Series from wide rows) = 0
  best_cost (Window rect) = 0
  best_cost (Cross k l) = 0
  best_cost (Best down rows) = map_cost costs schema h q down
  best_cost Stat = 0
  best_cost Told = 0
  best_cost Quit = 0
