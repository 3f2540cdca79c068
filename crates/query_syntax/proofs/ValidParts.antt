-- Laws of the parts of a valid query.
use Rattle.std.proofs.Common.{◌≡◌, ℕ, ◌+◌, ◌<◌, ◌≤◌, ◌^◌, true, length, subst, arith}
use Rattle.std.proofs.lemmas.Bool.Decides.{nat_tests}
use Rattle.std.specs.Prelude.{◌&&◌, ◌||◌, ◌==◌, nat_le, nat_lt, not}
use Rattle.cube_view.specs.Limits.{is_between}
use Rattle.cube_view.specs.declared.schema.Schema.{Schema}
use Rattle.query_syntax.specs.Queries.{ValidParts, is_valid_query, verb_in_range, is_too_deep, are_choices, is_span, filters_fit_verb, has_no_filters, is_all_bins, is_whole_space}
use Rattle.query_syntax.specs.Tiles.{is_tile}
use Rattle.query_syntax.specs.Verbs.{bins, most_rows, takes_filters, is_series, is_window}
use Rattle.query_syntax.specs.declared.query.Query.{Query}
use Rattle.query_syntax.specs.declared.query.Verb.{Verb}
use Rattle.query_syntax.specs.declared.query.Verb.TheVariants.{Hist, Map, Series}
use Rattle.cube_view.proofs.SchemaBounds.{between_high}
use Rattle.std.proofs.lemmas.Bool.{and_parts}

-- a valid query has each part
pub valid_parts : (schema : Schema) (q : Query) → is_valid_query schema q ≡ true → ValidParts schema q
unfolding is_valid_query
valid_parts schema q h =
    let six = (and_parts _ (filters_fit_verb q) h).0 in
    let fits = (and_parts _ (filters_fit_verb q) h).1 in
    let bare = (and_parts _ (not (is_window q.verb) || is_whole_space q.region) fits).0 in
    let five = (and_parts _ (is_span q.time) six).0 in
    let four = (and_parts _ (are_choices schema.categories q.sets) five).0 in
    let three = (and_parts _ (length q.sets == 4) four).0 in
    let two = (and_parts _ (not (is_too_deep schema.depth q.region.z q.verb)) three).0 in
    record {
      verb = (and_parts _ (is_tile schema.depth q.region) two).0;
      region = (and_parts _ (is_tile schema.depth q.region) two).1;
      deep = (and_parts _ (not (is_too_deep schema.depth q.region.z q.verb)) three).1;
      places = (and_parts _ (length q.sets == 4) four).1;
      sets = (and_parts _ (are_choices schema.categories q.sets) five).1;
      time = (and_parts _ (is_span q.time) six).1;
      takes = (and_parts _ (not (is_series q.verb) || is_all_bins q.time) bare).0;
      series = (and_parts (takes_filters q.verb || has_no_filters q) _ bare).1;
      window = (and_parts _ (not (is_window q.verb) || is_whole_space q.region) fits).1;
    }

module _ (schema : Schema) (q : Query) (valid : is_valid_query schema q ≡ true) where
  -- the region is a tile of the schema
  pub region_above : q.region.z ≤ schema.depth
  region_above = let e : nat_le q.region.z schema.depth ≡ true = (and_parts _ _ ((and_parts _ (nat_lt q.region.y (2 ^ q.region.z)) (valid_parts schema q valid).region).0)).0 in grind (arith, nat_tests)

  -- and its column and row are within its level
  pub region_within : (q.region.x < 2 ^ q.region.z) × (q.region.y < 2 ^ q.region.z)
  region_within =
      let region = (valid_parts schema q valid).region in
      let x : nat_lt q.region.x (2 ^ q.region.z) ≡ true = (and_parts (nat_le q.region.z schema.depth) _ ((and_parts _ (nat_lt q.region.y (2 ^ q.region.z)) region).0)).1 in
      let y : nat_lt q.region.y (2 ^ q.region.z) ≡ true = (and_parts (nat_le q.region.z schema.depth && nat_lt q.region.x (2 ^ q.region.z)) _ region).1 in
      (grind (arith, nat_tests), grind (arith, nat_tests))

  in_range : (verb : Verb) → q.verb ≡ verb → verb_in_range schema.depth (length schema.categories) verb ≡ true
  in_range verb is = subst (λ (v : Verb). verb_in_range schema.depth (length schema.categories) v ≡ true) is (valid_parts schema q valid).verb

  -- a histogram's category is one of the schema
  pub hist_known : (k : ℕ) → q.verb ≡ Hist k → k < length schema.categories
  hist_known k is = let e = in_range (Hist k) is in grind (arith, nat_tests)

  -- a map's tiles are not below the finest level
  pub map_above : (down : ℕ) → q.verb ≡ Map down → q.region.z + down ≤ schema.depth
  map_above down is = let e : not (nat_lt schema.depth (q.region.z + down)) ≡ true = subst (λ (v : Verb). not (is_too_deep schema.depth q.region.z v) ≡ true) is (valid_parts schema q valid).deep in grind (arith, nat_tests)

  -- the numbers of a series
  pub series_small : (from wide rows : ℕ) → q.verb ≡ Series from wide rows → (from < bins) × (wide ≤ bins) × (rows ≤ most_rows)
  series_small from wide rows is =
      let e = in_range (Series from wide rows) is in
      let two = (and_parts _ (is_between 1 most_rows rows) e).0 in
      let first : nat_lt from bins ≡ true = (and_parts _ (is_between 1 bins wide) two).0 in
      (grind (arith, nat_tests), between_high 1 bins wide ((and_parts (nat_lt from bins) _ two).1), between_high 1 most_rows rows ((and_parts (nat_lt from bins && is_between 1 bins wide) _ e).1))
