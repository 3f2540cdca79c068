-- A header as contracts see it.
use Rattle.std.specs.Prelude.{ℕ, List}
use Rattle.cube_view.specs.declared.schema.Schema.{Schema}

-- the schema that a header was read with, and the place of each needed column in a line
pub record Heading : Type 0 where
  pub schema : Schema
  pub places : List ℕ
