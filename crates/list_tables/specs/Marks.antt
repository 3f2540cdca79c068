-- Marks of values.
use Rattle.std.specs.Prelude.{◌≡◌, ℕ, ◌<◌, Bool, false, List, length, slice_index_or}
use Rattle.query_syntax.specs.Boxes.{chosen}
use Rattle.query_syntax.specs.declared.query.Choice.{Choice}
use Rattle.query_syntax.specs.declared.query.Choice.TheVariants.{All}

-- there is a mark at each value that the choice has, and at no other
abbrev pub AreMarks : Choice → List Bool → Type 0
AreMarks choice marks = (v : ℕ) → v < 256 → slice_index_or marks v false ≡ chosen choice v

-- The marks are those of four sets
pub record MarkSets (sets : List Choice) (first second third fourth : List Bool) : Type 0 where
  pub many : length sets ≡ 4
  pub of_first : AreMarks (slice_index_or sets 0 All) first
  pub of_second : AreMarks (slice_index_or sets 1 All) second
  pub of_third : AreMarks (slice_index_or sets 2 All) third
  pub of_fourth : AreMarks (slice_index_or sets 3 All) fourth
