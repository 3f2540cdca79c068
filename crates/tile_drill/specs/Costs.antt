-- How many steps a table takes at most, by the costs that a view gives its addresses and the list that it counts.
use Rattle.std.specs.Prelude.{ℕ, ◌+◌, nat_lt, List, length}
use Rattle.cube_view.specs.Bag.{amount, anywhere}
use Rattle.cube_view.specs.Costs.{ViewCosts, cost_if, is_found}
use Rattle.cube_view.specs.Places.{next_dim, region_address}
use Rattle.cube_view.specs.Points.{Point}
use Rattle.cube_view.specs.declared.address.Address.{Address}
use Rattle.cube_view.specs.declared.schema.Schema.{Schema}
use Rattle.query_syntax.specs.Items.{values_at}
use Rattle.query_syntax.specs.Parts.{with_one_value}
use Rattle.query_syntax.specs.declared.query.Query.{Query}
use Rattle.query_syntax.specs.declared.query.Verb.{Verb}
use Rattle.query_syntax.specs.declared.query.Verb.TheVariants.{Count, Hist, Map, Series}
use Rattle.query_walk.specs.Costs.{choices_from, from_region_cost, map_cost, region_cost, search_cost, sum_upto, walk_cost}

-- the running totals at so many ends, at an address of time
abbrev pub ends_cost : ViewCosts → ℕ → Address → ℕ
ends_cost costs n a = costs.before_each_cost a n

module _ (costs : ViewCosts) (schema : Schema) (h : List Point) (q : Query) where
  -- a histogram: one walk to the region, and for each value of the category the walk from there on with this value
  -- alone
  abbrev pub values_cost : ℕ → ℕ
  values_cost k = region_cost costs schema h q + sum_upto (λ v. from_region_cost costs schema h (with_one_value q k v)) (length (values_at schema.categories k))

  -- a series of so many rows: one walk to the region, and if that is found one walk from there on, with the running
  -- totals at the rows' ends at each address of time
  abbrev pub bins_cost : ℕ → ℕ
  bins_cost rows = region_cost costs schema h q + cost_if (is_found schema h q.region) (1 + cost_if (nat_lt 0 (amount anywhere h)) (walk_cost costs schema h (ends_cost costs (rows + 1)) (choices_from schema q 0) (next_dim (region_address q.region))))

  -- the table of a verb; this crate answers none of the verbs that cost nothing here
  abbrev pub table_cost : Verb → ℕ
  table_cost Count = search_cost costs schema h q
  table_cost (Hist k) = values_cost k
  table_cost (Map levels) = map_cost costs schema h q levels
  table_cost (Series from wide rows) = bins_cost rows
  table_cost other = 0
