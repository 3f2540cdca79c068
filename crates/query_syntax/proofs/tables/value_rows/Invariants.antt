use Rattle.std.proofs.Common.{◌≡◌, map}
use Rattle.std.specs.List.{range_with_len}
use Rattle.query_syntax.specs.Tables.{value_row}
use Rattle.query_syntax.proofs.tables.value_rows.Given as goal

abbrev pub invariant-loop-v : goal.invariant-loop-v
invariant-loop-v l = l.rows ≡ map (value_row l.schema l.query l.points l.k) (range_with_len 0 l.v)
