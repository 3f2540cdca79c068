-- The names of columns.
use Rattle.std.specs.Prelude.{ℕ, List, [], codes, Option, Some, None}
use Rattle.std.specs.List.{slice_get}
use Rattle.cube_view.specs.declared.category.Category.{Category}
use Rattle.cube_view.specs.declared.schema.Schema.{Schema}
use Rattle.feed_reader.specs.declared.column.Column.{Column}
use Rattle.feed_reader.specs.declared.column.Column.TheVariants as column

-- the name of the category, if there is one
abbrev pub name_of : Option Category → List ℕ
name_of None = []
name_of (Some c) = c.name

-- the text, if there is one
abbrev pub text_of : Option (List ℕ) → List ℕ
text_of None = []
text_of (Some text) = text

-- the name of a column in the header of a feed
abbrev pub column_name : Schema → Column → List ℕ
column_name schema column.X = codes "x"
column_name schema column.Y = codes "y"
column_name schema column.Time = codes "time"
column_name schema column.Weight = text_of schema.weight
column_name schema (column.Category k) = name_of (slice_get schema.categories k)
