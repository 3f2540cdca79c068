-- How many steps a search and a map take at most, by the costs that a view gives its addresses and the list that it
-- counts.
use Rattle.std.specs.Prelude.{ℕ, zero, suc, ◌+◌, ◌*◌, nat_lt, Bool, false, if◌then◌else◌, List, [], ◌∷◌, take, drop, length, slice_index_or}
use Rattle.std.specs.List.{sum_by}
use Rattle.cube_view.specs.Bag.{amount, anywhere}
use Rattle.cube_view.specs.Costs.{ViewCosts, has_spot, is_found, cost_if, space_cost, address_cost}
use Rattle.cube_view.specs.Places.{longer, longer_tile, next_dim, region_address}
use Rattle.cube_view.specs.Points.{Point}
use Rattle.cube_view.specs.declared.address.Address.{Address}
use Rattle.cube_view.specs.declared.address.Tile.{Tile}
use Rattle.cube_view.specs.declared.schema.Schema.{Schema}
use Rattle.query_syntax.specs.Addresses.{addresses}
use Rattle.query_syntax.specs.declared.query.Choice.{Choice}
use Rattle.query_syntax.specs.declared.query.Choice.TheVariants.{All, Only}
use Rattle.query_syntax.specs.declared.query.Query.{Query}

-- the sum over the numbers under n
abbrev pub sum_upto : (ℕ → ℕ) → ℕ → ℕ
sum_upto f zero = 0
sum_upto f (suc n) = sum_upto f n + f n

-- the sum over the values of a set
abbrev pub sum_over : List Bool → (ℕ → ℕ) → ℕ
sum_over set f = sum_upto (λ v. if slice_index_or set v false then f v else 0) (length set)

-- the choices of the schema's categories from category k on, counted from 0
abbrev pub choices_from : Schema → Query → ℕ → List Choice
choices_from schema q k = drop k (take (length schema.categories) q.sets)

module _ (costs : ViewCosts) (schema : Schema) (h : List Point) where
  -- The one walk through all addresses that go on from this one by these choices, to time, where its end takes so many
  -- steps: a step across for all values of a category, or a down for each value of its set, and where that is found a
  -- step across
  abbrev pub walk_cost : (Address → ℕ) → List Choice → Address → ℕ
  walk_cost end [] a = end a
  walk_cost end (All ∷ choices) a = 1 + walk_cost end choices (next_dim a)
  walk_cost end (Only set ∷ choices) a = sum_over set (λ v. costs.down_cost a + cost_if (has_spot schema h (longer a v)) (1 + walk_cost end choices (next_dim (longer a v))))

  -- the same by one value, with these choices after it
  abbrev pub value_walk_cost : (Address → ℕ) → List Choice → Address → ℕ → ℕ
  value_walk_cost end choices a v = costs.down_cost a + cost_if (has_spot schema h (longer a v)) (1 + walk_cost end choices (next_dim (longer a v)))

  -- two running totals
  abbrev pub two_totals : Address → ℕ
  two_totals a = 2 * costs.before_cost a

  -- the walk of a total: it ends with two running totals
  abbrev pub rest_cost : List Choice → Address → ℕ
  rest_cost choices a = walk_cost two_totals choices a

  -- the same by one value, with these choices after it
  abbrev pub choice_value_cost : List Choice → Address → ℕ → ℕ
  choice_value_cost choices a v = value_walk_cost two_totals choices a v

  -- what is left of a query's walk at an address of category k, counted from 0, or of time
  abbrev pub left_cost : Query → ℕ → Address → ℕ
  left_cost q k a = rest_cost (choices_from schema q k) a

  -- the same by one value of category k
  abbrev pub value_cost : Query → ℕ → Address → ℕ → ℕ
  value_cost q k a v = choice_value_cost (choices_from schema q (k + 1)) a v

  -- the same by each value of a set of category k
  abbrev pub set_cost : Query → ℕ → Address → List Bool → ℕ
  set_cost q k a set = sum_over set (value_cost q k a)

  -- the cost of each of a query's addresses, together
  abbrev pub search_cost : Query → ℕ
  search_cost q = sum_by (address_cost costs schema h) (addresses schema q)

  -- the walk of a query from a tile on: the step across, and what follows by its choices if the list weighs anything
  abbrev pub onward_cost : Query → Tile → ℕ
  onward_cost q t = 1 + cost_if (nat_lt 0 (amount anywhere h)) (rest_cost (choices_from schema q 0) (next_dim (region_address t)))

  -- the walk to a query's region
  abbrev pub region_cost : Query → ℕ
  region_cost q = space_cost costs schema h q.region q.region.z

  -- the walk from there on, if the region is found
  abbrev pub from_region_cost : Query → ℕ
  from_region_cost q = cost_if (is_found schema h q.region) (onward_cost q q.region)

  -- The tiles so many levels below a tile, come to from it: four downs at each tile with a spot above that level, and
  -- the walk from each tile with a spot on it
  abbrev pub areas_cost : Query → ℕ → Tile → ℕ
  areas_cost q zero t = onward_cost q t
  areas_cost q (suc levels) t = 4 * costs.down_cost (region_address t) + sum_upto (λ label. cost_if (has_spot schema h (region_address (longer_tile 1 t label))) (areas_cost q levels (longer_tile 1 t label))) 4

  -- the tiles so many levels below a quadrant, if it has a spot
  abbrev pub quadrant_cost : Query → ℕ → Tile → ℕ → ℕ
  quadrant_cost q levels t label = cost_if (has_spot schema h (region_address (longer_tile 1 t label))) (areas_cost q levels (longer_tile 1 t label))

  -- a map: the walk to the region, and if that is found the tiles from there; nothing in a view of no points
  abbrev pub map_cost : Query → ℕ → ℕ
  map_cost q levels = cost_if (nat_lt 0 (length h)) (region_cost q + cost_if (is_found schema h q.region) (areas_cost q levels q.region))
