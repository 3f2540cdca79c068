-- What a schema takes is shallow.
use Rattle.std.proofs.Common.{◌≡◌, true, All, List, get_or, refl, arith, IsTrue}
use Rattle.cube_view.proofs.SchemaBounds.{depth_bounds}
use Rattle.cube_view.specs.declared.schema.Schema.{Schema}
use Rattle.query_syntax.proofs.ValidParts.{map_above, region_within}
use Rattle.query_syntax.specs.Meaning.{asks_valid}
use Rattle.query_syntax.specs.Queries.{is_valid_query}
use Rattle.query_syntax.specs.declared.query.Parsed.{Parsed}
use Rattle.query_syntax.specs.declared.query.Parsed.TheVariants as parsed
use Rattle.query_syntax.specs.declared.query.Query.{Query}
use Rattle.query_syntax.specs.declared.query.Verb.{Verb}
use Rattle.query_syntax.specs.declared.query.Verb.TheVariants as verb
use Rattle.reply_sums.specs.Sums.{AsksShallow, IsMapShallow}

module _ (schema : Schema) where
  query_shallow : (q : Query) (v : Verb) → q.verb ≡ v → is_valid_query schema q ≡ true → IsMapShallow q v
  query_shallow q verb.Count is valid = tt
  query_shallow q (verb.Hist k) is valid = tt
  query_shallow q (verb.Map down) is valid =
      let deep = map_above schema q valid down is in
      let bounds = depth_bounds schema in
      let within = region_within schema q valid in
      (omega (arith, deep, bounds.1), within.0, within.1)
  query_shallow q (verb.Series from wide rows) is valid = tt
  query_shallow q (verb.Window rect) is valid = tt
  query_shallow q (verb.Cross k l) is valid = tt
  query_shallow q (verb.Best down rows) is valid = tt
  query_shallow q verb.Stat is valid = tt
  query_shallow q verb.Told is valid = tt
  query_shallow q verb.Quit is valid = tt

  asks_shallow : (p : Parsed) → asks_valid schema p ≡ true → AsksShallow p
  asks_shallow parsed.Skip valid = tt
  asks_shallow (parsed.Ask q) valid = query_shallow q q.verb refl valid
  asks_shallow (parsed.Fault fault word) valid = tt

  pub all_shallow : (ps : List Parsed) → All (λ p. IsTrue (asks_valid schema p)) ps → All AsksShallow ps
  all_shallow ps all = λ k d lt. asks_shallow (get_or ps k d) (all k d lt)
