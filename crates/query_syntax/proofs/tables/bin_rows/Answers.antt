use Rattle.std.proofs.Common.{arith}
use Rattle.std.proofs.lemmas.List.FromFn.{map-range_with_len_more}
use Rattle.query_syntax.specs.Tables.{bins_row}
use Rattle.query_syntax.proofs.tables.bin_rows.Goals as goal

pub loop-i-preserved : goal.loop-i-preserved
loop-i-preserved c = let more = map-range_with_len_more (bins_row c.args.schema.now c.args.query.now c.args.points.now c.args.from c.args.wide) 0 c.loop-i.i c.loop-i.i (omega arith) in cc (c.in_ok-add.ensures.added, c.bin_row-row.ensures, c.loop-i.invariant)
