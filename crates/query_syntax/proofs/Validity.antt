-- Filters that are read make valid queries.
use Rattle.std.proofs.Common.{◌≡◌, ℕ, zero, suc, ◌<◌, ◌≤◌, ◌^◌, Bool, true, false, List, [], ◌∷◌, length, sym, ◌∙◌, refl, arith, Some, None}
use Rattle.std.specs.Prelude.{◌||◌, not, map, nat_le, replicate, slice_set, unwrap_or}
use Rattle.std.proofs.lemmas.Bool.{false≢true}
use Rattle.std.proofs.lemmas.Bool.Decides.{nat_tests}
use Rattle.std.proofs.lemmas.List.{length-set, length-map}
use Rattle.cube_view.specs.declared.category.Category.{Category}
use Rattle.cube_view.specs.declared.schema.Schema.{Schema}
use Rattle.cube_view.specs.declared.address.Tile.{Tile}
use Rattle.query_syntax.specs.Filters.{Filters, no_filters}
use Rattle.query_syntax.specs.Items.{values_at}
use Rattle.query_syntax.specs.Meaning.{FiltersFit, query_with}
use Rattle.query_syntax.specs.Queries.{is_choice, are_choices, is_span, is_too_deep, is_valid_query, verb_in_range, whole_space, has_no_filters, is_all_bins, is_whole_space, all_bins}
use Rattle.query_syntax.specs.Tiles.{is_tile}
use Rattle.query_syntax.specs.Verbs.{bins, takes_filters, is_series, is_window}
use Rattle.query_syntax.specs.declared.query.Choice.{Choice}
use Rattle.query_syntax.specs.declared.query.Choice.TheVariants.{All}
use Rattle.query_syntax.specs.declared.query.Verb.{Verb}
use Rattle.query_syntax.proofs.Sets.{or_all, are_choices-set}

all_fit : (categories : List Category) (n : ℕ) → are_choices categories (replicate n All) ≡ true
all_fit categories zero = refl
all_fit [] (suc n) = all_fit [] n
all_fit (c ∷ categories) (suc n) = all_fit categories n

whole_fits : (depth : ℕ) → is_tile depth whole_space ≡ true
whole_fits depth = let e : nat_le 0 depth ≡ true = grind (arith, nat_tests) in rw e refl

pub fit_none : (schema : Schema) (verb : Verb) → FiltersFit schema verb no_filters
fit_none schema verb = record {
  region = whole_fits schema.depth;
  places = refl;
  sets = all_fit schema.categories 4;
  time = refl;
  none = λ _. refl;
  own = λ _. refl;
  world = λ _. refl;
}

pub fit_region : (schema : Schema) (verb : Verb) (filters : Filters) (tile : Tile) → takes_filters verb ≡ true → is_window verb ≡ false → FiltersFit schema verb filters → is_tile schema.depth tile ≡ true → FiltersFit schema verb (record filters { region = Some tile })
fit_region schema verb filters tile takes window fits h = record {
  region = h;
  places = fits.places;
  sets = fits.sets;
  time = fits.time;
  none = λ e. absurd (false≢true (sym e ∙ takes));
  own = fits.own;
  world = λ e. absurd (false≢true (sym window ∙ e));
}

pub fit_item : (schema : Schema) (verb : Verb) (filters : Filters) (k : ℕ) (choice : Choice) → takes_filters verb ≡ true → FiltersFit schema verb filters → k < length schema.categories → is_choice (length (values_at schema.categories k)) choice ≡ true → FiltersFit schema verb (record filters { sets = slice_set filters.sets k (Some choice) })
fit_item schema verb filters k choice takes fits known h = record {
  region = fits.region;
  places = length-set filters.sets k (Some choice) ∙ fits.places;
  sets = are_choices-set schema.categories filters.sets k choice fits.sets h known;
  time = fits.time;
  none = λ e. absurd (false≢true (sym e ∙ takes));
  own = fits.own;
  world = fits.world;
}

span_fits : (from to : ℕ) → from ≤ to → to ≤ 2 ^ 32 → is_span (record { from = from; to = to }) ≡ true
span_fits from to h l =
    let first : nat_le from to ≡ true = grind (arith, nat_tests) in
    let last : nat_le to (2 ^ 32) ≡ true = grind (arith, nat_tests) in
    rw (first, last) refl

pub fit_time : (schema : Schema) (verb : Verb) (filters : Filters) (from to : ℕ) → takes_filters verb ≡ true → is_series verb ≡ false → FiltersFit schema verb filters → from ≤ to → to ≤ 2 ^ 32 → FiltersFit schema verb (record filters { time = Some (record { from = from; to = to }) })
fit_time schema verb filters from to takes bins fits h l = record {
  region = fits.region;
  places = fits.places;
  sets = fits.sets;
  time = span_fits from to h l;
  none = λ e. absurd (false≢true (sym e ∙ takes));
  own = λ e. absurd (false≢true (sym bins ∙ e));
  world = fits.world;
}

-- the part of a verb that takes filters, and of one that doesn't
taken : (takes : Bool) (verb : Verb) (filters : Filters) → takes ≡ takes_filters verb → (takes_filters verb ≡ false → filters ≡ no_filters) → takes || has_no_filters (query_with verb filters) ≡ true
taken true verb filters e h = refl
taken false verb filters e h = rw (h (sym e)) refl

own_bins : (series : Bool) (verb : Verb) (filters : Filters) → series ≡ is_series verb → (is_series verb ≡ true → filters.time ≡ None) → not series || is_all_bins (unwrap_or filters.time all_bins) ≡ true
own_bins true verb filters e h = rw (h (sym e)) refl
own_bins false verb filters e h = refl

own_tiles : (window : Bool) (verb : Verb) (filters : Filters) → window ≡ is_window verb → (is_window verb ≡ true → filters.region ≡ None) → not window || is_whole_space (unwrap_or filters.region whole_space) ≡ true
own_tiles true verb filters e h = rw (h (sym e)) refl
own_tiles false verb filters e h = refl

pub valid_query : (schema : Schema) (verb : Verb) (filters : Filters) → verb_in_range schema.depth (length schema.categories) verb ≡ true → FiltersFit schema verb filters → is_too_deep schema.depth (unwrap_or filters.region whole_space).z verb ≡ false → is_valid_query schema (query_with verb filters) ≡ true
unfolding is_valid_query
valid_query schema verb filters range fits deep =
    let places : length (map or_all filters.sets) ≡ 4 = length-map filters.sets or_all ∙ fits.places in
    rw (range, fits.region, deep, places, fits.sets, fits.time, taken (takes_filters verb) verb filters refl fits.none, own_bins (is_series verb) verb filters refl fits.own, own_tiles (is_window verb) verb filters refl fits.world) refl
