use Rattle.std.proofs.Common.{◌≡◌}
use Rattle.std.specs.List.{flat_map, range_with_len}
use Rattle.query_syntax.specs.CrossTables.{rows_within}
use Rattle.list_tables.proofs.pairs.pair_rows.Given as goal

abbrev pub invariant-loop-value : goal.invariant-loop-value
invariant-loop-value l = l.rows ≡ flat_map (rows_within l.schema l.query l.points l.first l.second) (range_with_len 0 l.value)
