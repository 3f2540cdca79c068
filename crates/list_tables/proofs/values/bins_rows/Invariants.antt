use Rattle.std.proofs.Common.{◌≡◌, map}
use Rattle.std.specs.List.{range_with_len}
use Rattle.query_syntax.specs.Tables.{bins_row}
use Rattle.list_tables.proofs.values.bins_rows.Given as goal

abbrev pub invariant-loop-i : goal.invariant-loop-i
invariant-loop-i l = l.rows ≡ map (bins_row l.schema l.query l.points l.from l.wide) (range_with_len 0 l.i)
