use Rattle.std.proofs.Common.{◌≡◌, ◌++◌, map}
use Rattle.std.specs.List.{range_with_len}
use Rattle.list_tables.specs.Pairs.{pair_row_of}
use Rattle.list_tables.proofs.pairs.push_rows_within.Given as goal

abbrev pub invariant-loop-value : goal.invariant-loop-value
invariant-loop-value l = l.rows ≡ l.initial.rows ++ map (pair_row_of l.first l.seconds l.totals l.start) (range_with_len 0 l.value)
