-- The sets that marks are of.
use Rattle.std.specs.Prelude.{List}
use Rattle.list_tables.specs.declared.marks.ValueMarks.{ValueMarks}
use Rattle.query_syntax.specs.declared.query.Choice.{Choice}

-- the sets that the marks were made of
abbrev pub marked_sets : ValueMarks → List Choice
marked_sets marks = marks.sets
