use Rattle.std.proofs.Common.{◌≡◌, map}
use Rattle.std.specs.List.{range_with_len}
use Rattle.query_syntax.specs.Tables.{value_row}
use Rattle.list_tables.proofs.values.value_rows.Given as goal

abbrev pub invariant-loop-value : goal.invariant-loop-value
invariant-loop-value l = l.rows ≡ map (value_row l.schema l.query l.points l.k) (range_with_len 0 l.value)
