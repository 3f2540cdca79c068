-- Choices, one after another.
use Rattle.std.proofs.Common.{◌≡◌, ℕ, zero, suc, ◌<◌, Bool, true, false, ◌&&◌, List, [], ◌∷◌, length, get_or, drop, refl, sym, ◌∙◌, ap, arith, add-one, ◌+◌, ◌≤◌}
use Rattle.std.specs.Prelude.{◌==◌, not}
use Rattle.std.specs.List.{list_any}
use Rattle.std.proofs.Math.Bool.{and-false}
use Rattle.cube_view.specs.declared.category.Category.{Category}
use Rattle.cube_view.specs.declared.schema.Schema.{Schema}
use Rattle.query_syntax.specs.Items.{is_full, values_at}
use Rattle.query_syntax.specs.Queries.{are_choices, filters_fit_verb, is_all, is_choice, is_span, is_too_deep, is_valid_query, verb_in_range}
use Rattle.query_syntax.specs.Tiles.{is_tile}
use Rattle.query_syntax.specs.declared.query.Query.{Query}
use Rattle.query_syntax.specs.declared.query.Choice.{Choice}
use Rattle.query_syntax.specs.declared.query.Choice.TheVariants.{All, Only}

-- past the categories there is no value, and `All` alone is a choice
choice_of_none : (choice : Choice) → is_choice 0 choice ≡ is_all choice
choice_of_none All = refl
choice_of_none (Only set) = ap (λ b. b && not (list_any (λ c. c) set)) (and-false ((length set == 256) && list_any (λ b. b) set))

drop_none : (k : ℕ) → drop {A = Category} k [] ≡ []
drop_none zero = refl
drop_none (suc k) = refl

-- the choice at a place, and those after it
pub choices_from : (categories : List Category) (sets : List Choice) (k : ℕ) (d : Choice) → k < length sets
    → are_choices (drop k categories) (drop k sets) ≡ (is_choice (length (values_at categories k)) (get_or sets k d) && are_choices (drop (suc k) categories) (drop (suc k) sets))
choices_from categories [] k d l = absurd (omega (arith, l))
choices_from [] (choice ∷ sets) zero d l = ap (λ b. b && are_choices [] sets) (sym (choice_of_none choice))
choices_from [] (choice ∷ sets) (suc k) d l = ap (λ (cs : List Category). are_choices cs (drop k sets)) (sym (drop_none k)) ∙ choices_from [] sets k d (omega (arith, l))
choices_from (c ∷ categories) (choice ∷ sets) zero d l = refl
choices_from (c ∷ categories) (choice ∷ sets) (suc k) d l = choices_from categories sets k d (omega (arith, l))

-- one choice more of a walk over them
pub choices_more : (categories : List Category) (sets : List Choice) (k : ℕ) (d : Choice) (all here : Bool) → k < length sets → all ≡ are_choices (drop k categories) (drop k sets)
    → here ≡ is_choice (length (values_at categories k)) (get_or sets k d) → all ≡ (here && are_choices (drop (k + 1) categories) (drop (k + 1) sets))
choices_more categories sets k d all here l so_far is =
    so_far ∙ choices_from categories sets k d l
    ∙ ap (λ (n : ℕ). is_choice (length (values_at categories k)) (get_or sets k d) && are_choices (drop n categories) (drop n sets)) (sym (add-one k))
    ∙ ap (λ (b : Bool). b && are_choices (drop (k + 1) categories) (drop (k + 1) sets)) (sym is)

-- past the categories there is no value
pub values_past : (categories : List Category) (k : ℕ) → length categories ≤ k → 0 ≡ length (values_at categories k)
values_past [] k l = refl
values_past (c ∷ categories) zero l = absurd (omega (arith, l))
values_past (c ∷ categories) (suc k) l = values_past categories k (omega (arith, l))

-- a set is a part of so many values by three tests
pub part_is : (count : ℕ) (set : List Bool) (some full none : Bool) → length set ≡ 256 → some ≡ list_any (λ b. b) set → full ≡ is_full count set → none ≡ not (list_any (λ b. b) (drop count set))
    → (some && not full && none) ≡ is_choice count (Only set)
part_is count set some full none size a b c = λ i. ((sym size i == 256) && a i) && not (b i) && c i

-- a query is valid by the tests of its parts
pub valid_is : (schema : Schema) (q : Query) (verb tile deep sets span fits : Bool) → length q.sets ≡ 4 → verb ≡ verb_in_range schema.depth (length schema.categories) q.verb → tile ≡ is_tile schema.depth q.region
    → deep ≡ is_too_deep schema.depth q.region.z q.verb → sets ≡ are_choices schema.categories q.sets → span ≡ is_span q.time → fits ≡ filters_fit_verb q
    → (verb && tile && not deep && sets && span && fits) ≡ is_valid_query schema q
unfolding is_valid_query
valid_is schema q verb tile deep sets span fits four a b c d e f =
    regroup (verb && tile && not deep) sets span fits
    ∙ (λ i. a i && b i && not (c i) && (sym four i == 4) && d i && e i && f i)
  where
    regroup : (x s t u : Bool) → (x && s && t && u) ≡ (x && (4 == 4) && s && t && u)
    regroup true s t u = refl
    regroup false s t u = refl

-- a query whose choices don't fit is not valid
pub valid_sets : (schema : Schema) (q : Query) → are_choices schema.categories q.sets ≡ false → false ≡ is_valid_query schema q
unfolding is_valid_query
valid_sets schema q none =
    sym (ap (λ b. b && is_span q.time && filters_fit_verb q) (ap (λ b. (verb_in_range schema.depth (length schema.categories) q.verb && is_tile schema.depth q.region && not (is_too_deep schema.depth q.region.z q.verb) && (length q.sets == 4)) && b) none ∙ and-false (verb_in_range schema.depth (length schema.categories) q.verb && is_tile schema.depth q.region && not (is_too_deep schema.depth q.region.z q.verb) && (length q.sets == 4))))
