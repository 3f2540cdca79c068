-- The addresses of a query: its region at time's dimension, with no value of a category whose set is `All`, else with
-- one value of its set.
use Rattle.std.specs.Prelude.{ℕ, zero, suc, Bool, false, if◌then◌else◌, List, [], ◌∷◌, ◌++◌, map, slice_index_or, length, Option, Some, None}
use Rattle.std.specs.List.{flat_map}
use Rattle.cube_view.specs.Places.{time_dim}
use Rattle.cube_view.specs.declared.address.Address.{Address}
use Rattle.cube_view.specs.declared.address.Tile.{Tile}
use Rattle.cube_view.specs.declared.schema.Schema.{Schema}
use Rattle.query_syntax.specs.declared.query.Choice.{Choice}
use Rattle.query_syntax.specs.declared.query.Choice.TheVariants.{All, Only}
use Rattle.query_syntax.specs.declared.query.Query.{Query}

-- the values of a set that are under n, in order
abbrev pub members_below : List Bool → ℕ → List (Option ℕ)
members_below set zero = []
members_below set (suc n) = members_below set n ++ (if slice_index_or set n false then Some n ∷ [] else [])

-- what a choice asks for: no value, which stands for all of them, or each value of the set
abbrev pub asked_values : Choice → List (Option ℕ)
asked_values All = None ∷ []
asked_values (Only set) = members_below set (length set)

-- one asked value of each choice, in all ways
abbrev pub asked_lists : List Choice → List (List (Option ℕ))
asked_lists [] = [] ∷ []
asked_lists (choice ∷ choices) = flat_map (λ value. map (λ values. value ∷ values) (asked_lists choices)) (asked_values choice)

-- the address of time in a tile, under these values
abbrev pub address_at : Schema → Tile → List (Option ℕ) → Address
address_at schema t values = record { dim = time_dim schema; level = 0; tile = t; values = values }

-- the addresses of the query
abbrev pub addresses : Schema → Query → List Address
addresses schema q = map (address_at schema q.region) (asked_lists q.sets)
