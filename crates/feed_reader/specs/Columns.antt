-- The columns that a feed must have: x, y, time, the weight's where the schema has one, and then the categories in the
-- schema's order.
use Rattle.std.specs.Prelude.{ℕ, zero, suc, List, [], ◌∷◌, map, length, Option, Some, None}
use Rattle.cube_view.specs.Limits.{column_names, with_weight}
use Rattle.cube_view.specs.declared.category.Category.{Category}
use Rattle.cube_view.specs.declared.schema.Schema.{Schema}
use Rattle.feed_reader.specs.declared.column.Column.{Column}
use Rattle.feed_reader.specs.declared.column.Column.TheVariants as column

-- the names of the needed columns, in order
abbrev pub needed_names : Schema → List (List ℕ)
needed_names schema = column_names schema.categories schema.weight

-- the names of those after time
abbrev pub further_names : Schema → List (List ℕ)
further_names schema = with_weight schema.weight (map (λ (c : Category). c.name) schema.categories)

-- how many columns are needed
abbrev pub needed_count : Schema → ℕ
needed_count schema = length (needed_names schema)

-- the needed column at a place after time, from 0
abbrev pub further_column : Option (List ℕ) → ℕ → Column
further_column None k = column.Category k
further_column (Some name) zero = column.Weight
further_column (Some name) (suc k) = column.Category k

-- the needed column at a place in this order, from 0
abbrev pub column_at : Schema → ℕ → Column
column_at schema zero = column.X
column_at schema (suc zero) = column.Y
column_at schema (suc (suc zero)) = column.Time
column_at schema (suc (suc (suc k))) = further_column schema.weight k

-- of what there is for each column after time: that of the weight, where the schema has such a column
abbrev pub weight_item : {A : Type 0} → Option (List ℕ) → List A → Option A
weight_item None items = None
weight_item (Some name) [] = None
weight_item (Some name) (x ∷ items) = Some x

-- and those of the categories
abbrev pub category_items : {A : Type 0} → Option (List ℕ) → List A → List A
category_items None items = items
category_items (Some name) [] = []
category_items (Some name) (x ∷ items) = items
