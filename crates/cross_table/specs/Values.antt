-- Values of categories, by their numbers.
use Rattle.std.specs.Prelude.{ℕ, ◌<◌, length}
use Rattle.cube_view.specs.declared.schema.Schema.{Schema}
use Rattle.query_syntax.specs.Items.{values_at}

-- the schema has category k, and this has value v
abbrev pub IsValue : Schema → ℕ → ℕ → Type 0
IsValue schema k v = (k < length schema.categories) × (v < length (values_at schema.categories k))
