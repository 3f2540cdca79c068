-- What the limits of a schema give.
use Rattle.std.proofs.Common.{◌≡◌, ℕ, zero, suc, ◌<◌, ◌≤◌, true, List, [], ◌∷◌, length, get_or, refl, arith}
use Rattle.std.specs.Prelude.{is_some, Option}
use Rattle.std.specs.List.{list_all}
use Rattle.std.proofs.lemmas.Bool.{and_parts}
use Rattle.cube_view.specs.Limits.{category_in_range}
use Rattle.cube_view.proofs.SchemaBounds.{between_high, each_in_range}
use Rattle.cube_view.specs.declared.category.Category.{Category}
use Rattle.cube_view.specs.declared.schema.Schema.{Schema}
use Rattle.query_syntax.specs.Items.{values_at, has_item}
use Rattle.query_syntax.specs.Spelling.{name_at}
use Rattle.query_syntax.specs.declared.query.Choice.{Choice}

few_of_each : (categories : List Category) (k : ℕ) → list_all category_in_range categories ≡ true → k < length categories → length (values_at categories k) ≤ 256
few_of_each [] k h l = absurd (omega arith)
few_of_each (c ∷ categories) zero h l = between_high 1 256 (length c.values) ((and_parts _ _ ((and_parts _ _ ((and_parts (category_in_range c) _ h).0)).0)).1)
few_of_each (c ∷ categories) (suc k) h l = few_of_each categories k ((and_parts (category_in_range c) _ h).1) (omega arith)

-- a category has at most 256 values
pub few_values : (z : Schema) (k : ℕ) → k < length z.categories → length (values_at z.categories k) ≤ 256
few_values z k l = few_of_each z.categories k (each_in_range z) l

-- the values of a category by its place
pub values_at-get : (categories : List Category) (k : ℕ) (d : Category) → k < length categories → values_at categories k ≡ (get_or categories k d).values
values_at-get [] k d l = absurd (omega arith)
values_at-get (c ∷ categories) zero d l = refl
values_at-get (c ∷ categories) (suc k) d l = values_at-get categories k d (omega arith)

-- the name of a category by its place
pub name_at-get : (categories : List Category) (k : ℕ) (d : Category) → k < length categories → name_at categories k ≡ (get_or categories k d).name
name_at-get [] k d l = absurd (omega arith)
name_at-get (c ∷ categories) zero d l = refl
name_at-get (c ∷ categories) (suc k) d l = name_at-get categories k d (omega arith)

-- whether a category had an item, by its place
pub has_item-get : (sets : List (Option Choice)) (k : ℕ) (d : Option Choice) → k < length sets → has_item sets k ≡ is_some (get_or sets k d)
has_item-get [] k d l = absurd (omega arith)
has_item-get (set ∷ sets) zero d l = refl
has_item-get (set ∷ sets) (suc k) d l = has_item-get sets k d (omega arith)
