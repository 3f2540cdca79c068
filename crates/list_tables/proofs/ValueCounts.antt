-- How many values a category has.
use Rattle.std.proofs.Common.{◌≡◌, ℕ, zero, suc, ◌<◌, ◌≤◌, true, List, [], ◌∷◌, length, arith}
use Rattle.std.specs.List.{list_all}
use Rattle.std.proofs.lemmas.Bool.{and_parts}
use Rattle.cube_view.specs.Limits.{category_in_range}
use Rattle.cube_view.proofs.SchemaBounds.{between_low, each_in_range}
use Rattle.cube_view.specs.declared.category.Category.{Category}
use Rattle.cube_view.specs.declared.schema.Schema.{Schema}
use Rattle.query_syntax.specs.Items.{values_at}

some_of_each : (categories : List Category) (k : ℕ) → list_all category_in_range categories ≡ true → k < length categories → 1 ≤ length (values_at categories k)
some_of_each [] k h l = absurd (omega arith)
some_of_each (c ∷ categories) zero h l = between_low 1 256 (length c.values) ((and_parts _ _ ((and_parts _ _ ((and_parts (category_in_range c) _ h).0)).0)).1)
some_of_each (c ∷ categories) (suc k) h l = some_of_each categories k ((and_parts (category_in_range c) _ h).1) (omega arith)

-- a category has a value
pub some_values : (z : Schema) (k : ℕ) → k < length z.categories → 1 ≤ length (values_at z.categories k)
some_values z k l = some_of_each z.categories k (each_in_range z) l
