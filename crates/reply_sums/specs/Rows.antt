-- The sum of two lists of rows of the same keys, row by row.
use Rattle.std.specs.Prelude.{◌+◌, ◌&&◌, ◌==◌, if◌then◌else◌, List, [], ◌∷◌, Option, Some, None, option_map, option_and_then}
use Rattle.std.specs.Str.{bytes_eq}
use Rattle.query_syntax.specs.declared.table.RowOut.{RowOut}

-- the row of two rows' totals together; none where they are not of one kind, value, start or pair of values
abbrev pub sum_row : RowOut → RowOut → Option RowOut
sum_row (RowOut.One n) (RowOut.One m) = Some (RowOut.One (n + m))
sum_row (RowOut.Value s n) (RowOut.Value t m) = if bytes_eq s t then Some (RowOut.Value s (n + m)) else None
sum_row (RowOut.Bin s n) (RowOut.Bin t m) = if s == t then Some (RowOut.Bin s (n + m)) else None
sum_row (RowOut.Pair s v n) (RowOut.Pair t w m) = if bytes_eq s t && bytes_eq v w then Some (RowOut.Pair s v (n + m)) else None
sum_row row other = None

-- the sums of the rows, one after another; none where two rows have none, or one list is longer
abbrev pub sum_rows : List RowOut → List RowOut → Option (List RowOut)
sum_rows [] [] = Some []
sum_rows (row ∷ rows) (other ∷ others) = option_and_then (λ sum. option_map (λ sums. sum ∷ sums) (sum_rows rows others)) (sum_row row other)
sum_rows rows others = None
