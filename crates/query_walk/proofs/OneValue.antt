-- The box of a query with one value of a category alone.
use Rattle.std.proofs.Common.{◌≡◌, ℕ, zero, suc, ◌<◌, Bool, true, false, List, [], ◌∷◌, length, replicate, get_or, set, refl, ◌∙◌, ap, arith}
use Rattle.std.specs.List.{list_any}
use Rattle.std.proofs.lemmas.Bool.{and_parts, and_from, eq-eqb}
use Rattle.std.proofs.lemmas.List.{length-set, length-replicate, get_or_default}
use Rattle.cube_view.proofs.SchemaBounds.{few_categories}
use Rattle.query_syntax.specs.Boxes.{chosen}
use Rattle.cube_view.specs.declared.category.Category.{Category}
use Rattle.cube_view.specs.declared.schema.Schema.{Schema}
use Rattle.query_syntax.specs.declared.query.Choice.{Choice}
use Rattle.query_syntax.specs.declared.query.Choice.TheVariants.{All, Only}
use Rattle.query_syntax.specs.declared.query.Query.{Query}
use Rattle.query_walk.specs.Walks.{is_walkable, are_walkable, HasBox}

-- the set of one value
abbrev pub one_value : ℕ → List Bool
one_value v = set (replicate 256 false) v true

any-set : (xs : List Bool) (v : ℕ) → v < length xs → list_any (λ b. b) (set xs v true) ≡ true
any-set [] v lt = absurd (omega (arith, lt))
any-set (x ∷ xs) zero lt = refl
any-set (true ∷ xs) (suc v) lt = refl
any-set (false ∷ xs) (suc v) lt = any-set xs v (omega (arith, lt))

one_walkable : (v : ℕ) → v < 256 → is_walkable (Only (one_value v)) ≡ true
one_walkable v lt =
    and_from _ _ (eq-eqb _ _ (length-set (replicate 256 false) v true ∙ length-replicate 256 false)) (any-set (replicate 256 false) v (let l = length-replicate 256 false in omega (arith, l, lt)))

choices_set : (cs : List Category) (qs : List Choice) (k : ℕ) (x : Choice) → is_walkable x ≡ true → k < length cs → are_walkable cs qs ≡ true → are_walkable cs (set qs k x) ≡ true
choices_set cs [] k x e lt all = all
choices_set [] (y ∷ qs) k x e lt all = absurd (omega (arith, lt))
choices_set (c ∷ cs) (y ∷ qs) zero x e lt all = and_from _ _ e (and_parts (is_walkable y) (are_walkable cs qs) all).1
choices_set (c ∷ cs) (y ∷ qs) (suc k) x e lt all =
    let parts = and_parts (is_walkable y) (are_walkable cs qs) all in
    and_from _ _ parts.0 (choices_set cs qs k x e (omega (arith, lt)) parts.1)

pub value_has_box : (z : Schema) (q : Query) (k v : ℕ) → HasBox z q → k < length z.categories → v < 256 → HasBox z (record q { sets = set q.sets k (Only (one_value v)) })
value_has_box z q k v has lt small = record {
  region = has.region;
  wide = length-set q.sets k (Only (one_value v)) ∙ has.wide;
  choices = choices_set z.categories q.sets k (Only (one_value v)) (one_walkable v small) lt has.choices;
  order = has.order;
}

-- whether a value is chosen, where the choice was looked up
pub chosen_at : (z : Schema) (q : Query) (k v : ℕ) (d : Choice) (b : Bool) → HasBox z q → k < length z.categories → chosen (get_or q.sets k d) v ≡ b → chosen (get_or q.sets k All) v ≡ b
chosen_at z q k v d b has lt e =
    let few = few_categories z in
    let wide = has.wide in
    ap (λ (x : Choice). chosen x v) (get_or_default q.sets k All d (omega (arith, few, wide, lt))) ∙ e
