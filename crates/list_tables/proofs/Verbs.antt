-- What valid queries have of their verbs.
use Rattle.std.proofs.Common.{◌≡◌, ℕ, ◌<◌, ◌≤◌, true, ◌&&◌, ◌||◌, not, length, subst}
use Rattle.std.specs.Prelude.{nat_le, nat_lt, ◌==◌}
use Rattle.std.proofs.lemmas.Bool.{and_parts, eqb-true, leb-true, ltb-true}
use Rattle.cube_view.proofs.SchemaBounds.{between_low}
use Rattle.cube_view.specs.Limits.{is_between}
use Rattle.cube_view.specs.declared.schema.Schema.{Schema}
use Rattle.query_syntax.proofs.ValidParts.{valid_parts}
use Rattle.query_syntax.specs.Queries.{is_all_bins, is_valid_query, verb_in_range}
use Rattle.query_syntax.specs.Verbs.{bins, is_series, most_best_rows, most_rows}
use Rattle.query_syntax.specs.declared.query.Query.{Query}
use Rattle.query_syntax.specs.declared.query.Verb.{Verb}
use Rattle.query_syntax.specs.declared.query.Verb.TheVariants.{Best, Cross, Map, Series}

module _ (z : Schema) (q : Query) (valid : is_valid_query z q ≡ true) where
  verb_fits : (v : Verb) → q.verb ≡ v → verb_in_range z.depth (length z.categories) v ≡ true
  verb_fits v is = subst (λ (v : Verb). verb_in_range z.depth (length z.categories) v ≡ true) is (valid_parts z q valid).verb

  -- there are four sets
  pub four_sets : length q.sets ≡ 4
  four_sets = eqb-true _ _ (valid_parts z q valid).places

  -- a map, and best tiles, are few levels down
  pub map_near : (down : ℕ) → q.verb ≡ Map down → down ≤ 10
  map_near down is = leb-true down 10 (verb_fits (Map down) is)

  pub best_near : (down rows : ℕ) → q.verb ≡ Best down rows → down ≤ 10
  best_near down rows is = leb-true down 10 (and_parts (nat_le down 10) (is_between 1 most_best_rows rows) (verb_fits (Best down rows) is)).0

  -- the categories of a cross table are the schema's
  pub cross_known : (k l : ℕ) → q.verb ≡ Cross k l → (k < length z.categories) × (l < length z.categories)
  cross_known k l is =
      let both = and_parts (nat_lt k (length z.categories)) (nat_lt l (length z.categories)) (and_parts (nat_lt k (length z.categories) && nat_lt l (length z.categories)) (not (k == l)) (verb_fits (Cross k l) is)).0 in
      (ltb-true _ _ both.0, ltb-true _ _ both.1)

  -- a row of a series has a bin, and a series has no span
  pub series_wide : (from wide rows : ℕ) → q.verb ≡ Series from wide rows → 1 ≤ wide
  series_wide from wide rows is =
      between_low 1 bins wide (and_parts (nat_lt from bins) (is_between 1 bins wide) (and_parts (nat_lt from bins && is_between 1 bins wide) (is_between 1 most_rows rows) (verb_fits (Series from wide rows) is)).0).1

  pub series_all : (from wide rows : ℕ) → q.verb ≡ Series from wide rows → is_all_bins q.time ≡ true
  series_all from wide rows is = subst (λ (v : Verb). (not (is_series v) || is_all_bins q.time) ≡ true) is (valid_parts z q valid).series
