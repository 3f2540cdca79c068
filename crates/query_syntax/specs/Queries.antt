-- Which queries a schema takes.
use Rattle.std.specs.Prelude.{◌≡◌, ℕ, ◌+◌, ◌^◌, Bool, true, false, not, ◌&&◌, ◌||◌, ◌==◌, nat_le, nat_lt, List, [], ◌∷◌, length, drop}
use Rattle.std.specs.List.{list_all, list_any}
use Rattle.cube_view.specs.Limits.{is_between}
use Rattle.cube_view.specs.declared.category.Category.{Category}
use Rattle.cube_view.specs.declared.schema.Schema.{Schema}
use Rattle.cube_view.specs.declared.address.Tile.{Tile}
use Rattle.query_syntax.specs.Items.{is_full}
use Rattle.query_syntax.specs.Tiles.{is_tile}
use Rattle.query_syntax.specs.Verbs.{bins, deepest_map, most_rows, most_best_rows, takes_filters, is_series, is_window}
use Rattle.query_syntax.specs.declared.query.Choice.{Choice}
use Rattle.query_syntax.specs.declared.query.Choice.TheVariants.{All, Only}
use Rattle.query_syntax.specs.declared.query.Query.{Query}
use Rattle.query_syntax.specs.declared.query.Span.{Span}
use Rattle.query_syntax.specs.declared.rect.Rect.{Rect}
use Rattle.query_syntax.specs.declared.query.Verb.{Verb}
use Rattle.query_syntax.specs.declared.query.Verb.TheVariants.{Count, Hist, Map, Series, Window, Cross, Best, Stat, Told, Quit}

abbrev pub whole_space : Tile
whole_space = record { z = 0; x = 0; y = 0 }

abbrev pub all_bins : Span
all_bins = record { from = 0; to = bins }

abbrev pub is_all : Choice → Bool
is_all All = true
is_all (Only set) = false

-- a choice among so many values: all, or some but not all of them
abbrev pub is_choice : ℕ → Choice → Bool
is_choice count All = true
is_choice count (Only set) = (length set == 256) && list_any (λ b. b) set && not (is_full count set) && not (list_any (λ b. b) (drop count set))

-- each choice is one of its category's values, and past the categories it is `All`
abbrev pub are_choices : List Category → List Choice → Bool
are_choices categories [] = true
are_choices [] (choice ∷ choices) = is_all choice && are_choices [] choices
are_choices (c ∷ categories) (choice ∷ choices) = is_choice (length c.values) choice && are_choices categories choices

-- from the first bin of the span to one at or after it
abbrev pub is_span : Span → Bool
is_span span = nat_le span.from span.to && nat_le span.to bins

-- the tiles of a map, or the best ones, are too deep for the schema
abbrev pub is_too_deep : ℕ → ℕ → Verb → Bool
is_too_deep depth z (Map down) = nat_lt depth (z + down)
is_too_deep depth z (Best down rows) = nat_lt depth (z + down)
is_too_deep depth z other = false

-- in order, and within the columns and rows of the finest tiles
abbrev pub rect_in_range : ℕ → Rect → Bool
rect_in_range depth r = (nat_le r.x0 r.x1 && nat_le r.x1 (2 ^ depth)) && (nat_le r.y0 r.y1 && nat_le r.y1 (2 ^ depth))

-- the numbers of the verb are in their ranges, where there are so many levels and so many categories
abbrev pub verb_in_range : ℕ → ℕ → Verb → Bool
verb_in_range depth count Count = true
verb_in_range depth count (Hist k) = nat_lt k count
verb_in_range depth count (Map down) = nat_le down deepest_map
verb_in_range depth count (Series from wide rows) = nat_lt from bins && is_between 1 bins wide && is_between 1 most_rows rows
verb_in_range depth count (Window rect) = rect_in_range depth rect
verb_in_range depth count (Cross k l) = nat_lt k count && nat_lt l count && not (k == l)
verb_in_range depth count (Best down rows) = nat_le down deepest_map && is_between 1 most_best_rows rows
verb_in_range depth count Stat = true
verb_in_range depth count Told = true
verb_in_range depth count Quit = true

abbrev pub is_whole_space : Tile → Bool
is_whole_space t = (t.z == 0) && (t.x == 0) && (t.y == 0)

abbrev pub is_all_bins : Span → Bool
is_all_bins span = (span.from == 0) && (span.to == bins)

-- the filters are those that a line without filters has
abbrev pub has_no_filters : Query → Bool
has_no_filters q = is_whole_space q.region && list_all is_all q.sets && is_all_bins q.time

-- the filters that the verb doesn't take are as without them
abbrev pub filters_fit_verb : Query → Bool
filters_fit_verb q =
    (takes_filters q.verb || has_no_filters q) && (not (is_series q.verb) || is_all_bins q.time) && (not (is_window q.verb) || is_whole_space q.region)

-- The schema takes the query
unfoldable pub is_valid_query : Schema → Query → Bool
is_valid_query schema q =
    verb_in_range schema.depth (length schema.categories) q.verb && is_tile schema.depth q.region && not (is_too_deep schema.depth q.region.z q.verb)
    && (length q.sets == 4) && are_choices schema.categories q.sets && is_span q.time && filters_fit_verb q

-- The parts of a query that a schema takes
pub record ValidParts (schema : Schema) (q : Query) : Type 0 where
  -- the numbers of its verb are in their ranges
  pub verb : verb_in_range schema.depth (length schema.categories) q.verb ≡ true
  -- its region is a tile of the schema
  pub region : is_tile schema.depth q.region ≡ true
  -- the tiles of its map, or the best ones, are not too deep
  pub deep : not (is_too_deep schema.depth q.region.z q.verb) ≡ true
  -- it has a choice for each of four categories
  pub places : (length q.sets == 4) ≡ true
  -- each choice is one of its category's values
  pub sets : are_choices schema.categories q.sets ≡ true
  -- its span is in order
  pub time : is_span q.time ≡ true
  -- it has no filters that its verb doesn't take
  pub takes : takes_filters q.verb || has_no_filters q ≡ true
  -- a series has its bins by itself
  pub series : not (is_series q.verb) || is_all_bins q.time ≡ true
  -- and a window its finest tiles
  pub window : not (is_window q.verb) || is_whole_space q.region ≡ true
