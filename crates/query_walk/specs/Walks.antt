-- Where a walk stands, and which spots it has still to count.
use Rattle.std.specs.Prelude.{◌≡◌, ℕ, ◌+◌, ◌<◌, ◌≤◌, Bool, true, false, ◌&&◌, ◌==◌, nat_le, nat_lt, IsTrue, List, [], ◌∷◌, length, map, drop, Option, None, IfNone, IfSome, slice_index, slice_index_or}
use Rattle.std.specs.List.{list_any}
use Rattle.cube_view.specs.Bag.{amount, EachCounted}
use Rattle.cube_view.specs.Costs.{is_found}
use Rattle.cube_view.specs.Places.{is_under, longer, next_dim, region_address}
use Rattle.cube_view.specs.Points.{Point}
use Rattle.cube_view.specs.declared.address.Address.{Address}
use Rattle.cube_view.specs.declared.category.Category.{Category}
use Rattle.cube_view.specs.declared.schema.Schema.{Schema}
use Rattle.cube_view.specs.declared.spot.Spot.{Spot}
use Rattle.query_syntax.specs.Boxes.{chosen, are_in_sets}
use Rattle.query_syntax.specs.Queries.{is_all}
use Rattle.query_syntax.specs.Tiles.{is_tile}
use Rattle.query_syntax.specs.declared.query.Choice.{Choice}
use Rattle.query_syntax.specs.declared.query.Choice.TheVariants.{All, Only}
use Rattle.query_syntax.specs.declared.query.Query.{Query}
use Rattle.query_syntax.specs.declared.query.Span.{Span}

-- the list has nothing under the address
abbrev pub HasNone : Schema → Address → List Point → Type 0
HasNone schema address h = amount (is_under schema address) h ≡ 0

-- the bin is one of the span
abbrev pub is_in_span : Span → ℕ → Bool
is_in_span span bin = nat_le span.from bin && nat_lt bin span.to

-- the spot lies under the address, in a bin of the span
abbrev pub is_under_in : Schema → Address → Span → Spot → Bool
is_under_in schema address span s = is_under schema address s && is_in_span span s.bin

-- the spot's values from category k on, counted from 0, are in the query's sets, and its bin is in the span
abbrev pub meets_from : Query → ℕ → Spot → Bool
meets_from q k s = are_in_sets (map chosen (drop k q.sets)) (drop k s.values) && is_in_span q.time s.bin

-- the spot lies under the address, and is one of the query as far as it says from category k on
abbrev pub is_left : Schema → Query → Address → ℕ → Spot → Bool
is_left schema q address k s = is_under schema address s && meets_from q k s

-- the same, where the set is that of category k
abbrev pub is_left_in_set : Schema → Query → Address → ℕ → List Bool → Spot → Bool
is_left_in_set schema q address k set s = is_under schema address s && (slice_index_or set (slice_index s.values k) false && meets_from q (k + 1) s)

-- the same, of the spots with that value of category k
abbrev pub is_left_at_value : Schema → Query → Address → ℕ → ℕ → Spot → Bool
is_left_at_value schema q address k v = is_left schema q (next_dim (longer address v)) (k + 1)

-- The address is at level 0 of category k, counted from 0, or of time, and has no value from there on.
pub record IsAtCategory (address : Address) (k : ℕ) : Type 0 where
  pub dim : address.dim ≡ k + 2
  pub level : address.level ≡ 0
  pub wide : length address.values ≡ 4
  pub open_from : (j : ℕ) → k ≤ j → slice_index_or address.values j None ≡ None

-- all values, or those of a set that has one
abbrev pub is_walkable : Choice → Bool
is_walkable All = true
is_walkable (Only set) = (length set == 256) && list_any (λ b. b) set

-- each choice is such, and past the categories it is `All`
abbrev pub are_walkable : List Category → List Choice → Bool
are_walkable categories [] = true
are_walkable [] (choice ∷ choices) = is_all choice && are_walkable [] choices
are_walkable (c ∷ categories) (choice ∷ choices) = is_walkable choice && are_walkable categories choices

-- The query's box can be walked: its region is a tile of the schema, its sets are of the schema's categories, and
-- its span is in order. So it is for each valid query, and for each row of its table.
pub record HasBox (schema : Schema) (q : Query) : Type 0 where
  pub region : IsTrue (is_tile schema.depth q.region)
  pub wide : length q.sets ≡ 4
  pub choices : IsTrue (are_walkable schema.categories q.sets)
  pub order : q.time.from ≤ q.time.to

-- There are k categories or more, what the query asks from there on the schema takes, and its span is in order.
pub record HasChoicesFrom (schema : Schema) (q : Query) (k : ℕ) : Type 0 where
  pub few : k ≤ length schema.categories
  pub wide : length q.sets ≡ 4
  pub choices : IsTrue (are_walkable (drop k schema.categories) (drop k q.sets))
  pub order : q.time.from ≤ q.time.to

-- The address is where a walk of the query asks for values of category k, counted from 0.
pub record AsksAtCategory (schema : Schema) (q : Query) (address : Address) (k : ℕ) : Type 0 where
  -- the schema has the category
  pub category : k < length schema.categories
  -- the address is at level 0 of it
  pub here : IsAtCategory address k
  -- the schema takes what the query asks from there on
  pub choices : HasChoicesFrom schema q k

-- The walk to the query's region has ended, in a view that gives spots `weight_at` and is of `seen` points: with a
-- cursor at the region, or with none.
pub record HasWalked {C : Type 0} (weight_at : Spot → ℕ) (seen : ℕ) (schema : Schema) (q : Query) (stands : C → Type 0) (address : C → Address) (end : Option C) : Type 0 where
  -- the query's box can be walked
  pub has_box : HasBox schema q
  -- a cursor stands at the region
  pub place : IfSome end (λ c. stands c × (address c ≡ region_address q.region))
  -- then each list that the view counts has a spot in the region, or this is all of space
  pub found : IfSome end (λ _. EachCounted weight_at seen (λ h. IsTrue (is_found schema h q.region)))
  -- and else it has none there
  pub none : IfNone end (EachCounted weight_at seen (HasNone schema (region_address q.region)))
