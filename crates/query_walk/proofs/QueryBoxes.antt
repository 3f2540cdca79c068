-- What valid queries have: a box that can be walked.
use Rattle.std.proofs.Common.{◌≡◌, ℕ, ◌<◌, ◌≤◌, ◌^◌, true, ltb, leb, IsTrue, List, [], ◌∷◌, length}
use Rattle.std.proofs.lemmas.Bool.{and_parts, and_from, eqb-true, ltb-true, leb-true}
use Rattle.cube_view.specs.declared.category.Category.{Category}
use Rattle.cube_view.specs.declared.schema.Schema.{Schema}
use Rattle.query_syntax.specs.Queries.{is_choice, are_choices, is_valid_query}
use Rattle.query_syntax.proofs.ValidParts.{valid_parts}
use Rattle.query_syntax.specs.declared.query.Choice.{Choice}
use Rattle.query_syntax.specs.declared.query.Choice.TheVariants.{All, Only}
use Rattle.query_syntax.specs.declared.query.Query.{Query}
use Rattle.query_walk.specs.Walks.{is_walkable, are_walkable, HasBox}

choice_walkable : (count : ℕ) (x : Choice) → is_choice count x ≡ true → is_walkable x ≡ true
choice_walkable count All e = e
choice_walkable count (Only set) e = (and_parts _ _ (and_parts _ _ e).0).0

choices_walkable : (cs : List Category) (qs : List Choice) → are_choices cs qs ≡ true → are_walkable cs qs ≡ true
choices_walkable cs [] e = e
choices_walkable [] (x ∷ qs) e = let parts = and_parts _ (are_choices [] qs) e in and_from _ _ parts.0 (choices_walkable [] qs parts.1)
choices_walkable (c ∷ cs) (x ∷ qs) e =
    let parts = and_parts (is_choice (length c.values) x) (are_choices cs qs) e in
    and_from _ _ (choice_walkable (length c.values) x parts.0) (choices_walkable cs qs parts.1)

pub valid_has_box : (z : Schema) (q : Query) → IsTrue (is_valid_query z q) → HasBox z q
valid_has_box z q valid =
    let parts = valid_parts z q valid in
    record {
      region = parts.region;
      wide = eqb-true _ _ parts.places;
      choices = choices_walkable z.categories q.sets parts.sets;
      order = leb-true _ _ (and_parts (leb q.time.from q.time.to) _ parts.time).0;
    }

-- What a box that can be walked has

module _ (z : Schema) (q : Query) (has : HasBox z q) where
  pub region_within : (q.region.x < 2 ^ q.region.z) × (q.region.y < 2 ^ q.region.z)
  region_within =
      let parts = and_parts _ _ has.region in
      let first = and_parts (leb q.region.z z.depth) (ltb q.region.x (2 ^ q.region.z)) parts.0 in
      (ltb-true _ _ first.1, ltb-true _ _ parts.1)

  pub region_deep : q.region.z ≤ z.depth
  region_deep =
      let parts = and_parts _ _ has.region in
      leb-true _ _ (and_parts (leb q.region.z z.depth) (ltb q.region.x (2 ^ q.region.z)) parts.0).0
