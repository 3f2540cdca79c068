-- Cross tables: a row for each value of one category and, within it, for each value of another.
use Rattle.std.specs.Prelude.{ℕ, List, [], length, map, slice_index_or}
use Rattle.std.specs.List.{flat_map, range_with_len}
use Rattle.cube_view.specs.declared.schema.Schema.{Schema}
use Rattle.cube_view.specs.declared.spot.Point.{Point}
use Rattle.query_syntax.specs.Boxes.{Box, box, total}
use Rattle.query_syntax.specs.Items.{values_at}
use Rattle.query_syntax.specs.Narrowing.{with_value}
use Rattle.query_syntax.specs.declared.query.Query.{Query}
use Rattle.query_syntax.specs.declared.table.RowOut.{RowOut}

-- the values of category k by their numbers, in the schema's order
abbrev pub values_of_category : Schema → ℕ → List ℕ
values_of_category schema k = range_with_len 0 (length (values_at schema.categories k))

-- the text of value v of category k
abbrev pub text_of_value : Schema → ℕ → ℕ → List ℕ
text_of_value schema k v = slice_index_or (values_at schema.categories k) v []

-- the box, with its set of category k met with the one value v, and its set of category l with the one value w
abbrev pub with_pair : Box → ℕ → ℕ → ℕ → ℕ → Box
with_pair b k l v w = with_value (with_value b k v) l w

module _ (schema : Schema) (q : Query) (h : List Point) (k l : ℕ) where
  -- how much of the list the query counts that has value v of category k and value w of category l
  abbrev pub pair_total : ℕ → ℕ → ℕ
  pair_total v w = total schema (with_pair (box q) k l v w) h

  -- the row of the two values: their texts, and that total
  abbrev pub pair_row : ℕ → ℕ → RowOut
  pair_row v w = RowOut.Pair (text_of_value schema k v) (text_of_value schema l w) (pair_total v w)

  -- the rows within a value of category k: one for each value of category l, with totals of 0 too
  abbrev pub rows_within : ℕ → List RowOut
  rows_within v = map (pair_row v) (values_of_category schema l)

  -- the rows of categories k and l: those within each value of category k
  unfoldable pub cross_rows : List RowOut
  cross_rows = flat_map rows_within (values_of_category schema k)
