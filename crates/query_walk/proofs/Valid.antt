-- What a box that can be walked has: a tile of the schema, and choices for each category.
use Rattle.std.proofs.Common.{◌≡◌, ℕ, zero, suc, ◌+◌, ◌<◌, true, List, [], ◌∷◌, length, drop, get_or, sym, ◌∙◌, ap, subst, arith, add-one}
use Rattle.std.proofs.lemmas.Bool.{and_parts}
use Rattle.std.proofs.lemmas.List.{get_or_default}
use Rattle.cube_view.proofs.SchemaBounds.{few_categories}
use Rattle.cube_view.specs.declared.address.Address.{Address}
use Rattle.cube_view.specs.declared.category.Category.{Category}
use Rattle.cube_view.specs.declared.schema.Schema.{Schema}
use Rattle.query_syntax.specs.declared.query.Choice.{Choice}
use Rattle.query_syntax.specs.declared.query.Query.{Query}
use Rattle.query_syntax.specs.declared.query.Choice.TheVariants.{All}
use Rattle.query_walk.specs.Walks.{is_walkable, are_walkable, AsksAtCategory, HasBox, HasChoicesFrom}

module _ (z : Schema) (q : Query) (has : HasBox z q) where
  pub has_choices : HasChoicesFrom z q 0
  has_choices = record {
    few = omega arith;
    wide = has.wide;
    choices = has.choices;
    order = has.order;
  }

-- the choices after category k
next_choices : (cs : List Category) (qs : List Choice) (k : ℕ) → k < length cs → k < length qs → are_walkable (drop k cs) (drop k qs) ≡ true → are_walkable (drop (suc k) cs) (drop (suc k) qs) ≡ true
next_choices [] qs k lt le e = absurd (omega (arith, lt))
next_choices (c ∷ cs) [] k lt le e = absurd (omega (arith, le))
next_choices (c ∷ cs) (x ∷ qs) zero lt le e = (and_parts (is_walkable x) (are_walkable cs qs) e).1
next_choices (c ∷ cs) (x ∷ qs) (suc k) lt le e = next_choices cs qs k (omega (arith, lt)) (omega (arith, le)) e

-- a category's number from 0
pub below_four : (z : Schema) (k : ℕ) → k < length z.categories → k < 4
below_four z k lt = let few = few_categories z in omega (arith, few, lt)

-- The schema has category k, counted from 0, and of its values these are asked for.
pub record AsksFor (z : Schema) (sets : List Choice) (k : ℕ) (asked : Choice) : Type 0 where
  pub category : k < length z.categories
  pub within : k < length sets
  pub choice : get_or sets k All ≡ asked

module _ (z : Schema) (q : Query) (k : ℕ) where
  -- the category of a number that is not past the n of the schema, with what the query asks for there
  pub asks_for : {y : Schema} {n : ℕ} {asked : Choice} (d : Choice) → y ≡ z → n ≡ length y.categories → (k ≡ n → ⊥) → HasChoicesFrom z q k → get_or q.sets k d ≡ asked → AsksFor z q.sets k asked
  asks_for d same all ne has is =
      let count = ap (λ (x : Schema). length x.categories) same in
      let low = has.few in
      let lt : k < length z.categories = omega (arith, count, all, ne, low) in
      let four = below_four z k lt in
      let wide = has.wide in
      let within : k < length q.sets = omega (arith, four, wide) in
      record { category = lt; within = within; choice = get_or_default q.sets k All d within ∙ is }

  -- and of the category where a walk stands
  pub asks_there : {a : Address} {asked : Choice} → AsksAtCategory z q a k → get_or q.sets k All ≡ asked → AsksFor z q.sets k asked
  asks_there walk is =
      let four = below_four z k walk.category in
      let wide = walk.choices.wide in
      record { category = walk.category; within = omega (arith, four, wide); choice = is }

pub choices_next : (z : Schema) (q : Query) (k : ℕ) → HasChoicesFrom z q k → k < length z.categories → HasChoicesFrom z q (k + 1)
choices_next z q k has lt = record {
  few = omega (arith, lt);
  wide = has.wide;
  choices = subst (λ j. are_walkable (drop j z.categories) (drop j q.sets) ≡ true) (sym (add-one k)) (next_choices z.categories q.sets k lt (let four = below_four z k lt in let wide = has.wide in omega (arith, wide, four)) has.choices);
  order = has.order;
}
