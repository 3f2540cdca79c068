use Rattle.std.proofs.Common.{refl, sym, ap, arith}
use Rattle.node_arena.specs.Stats.{capped}
use Rattle.shape_test.specs.Fits.{least_points}
use Rattle.shape_test.proofs.RowSums.{none_added}
use Rattle.shape_test.proofs.Whole.{next_row, all_rows}
use Rattle.shape_test.proofs.size.rows_size.Goals as goal

pub loop-bin-init : goal.loop-bin-init
loop-bin-init g c = record {
  last = omega arith;
  sum = sym (ap capped (none_added (λ n. n) c.args.table.now));
  least = sym (ap capped (none_added least_points c.args.table.now));
}

pub loop-bin-preserved : goal.loop-bin-preserved
loop-bin-preserved g c = record {
  last = let s = c.in-Some.ensures.small in let f = c.from-from.ensures in omega (arith, s, f);
  sum = next_row (λ n. n) c.args.table.now c.loop-bin.from c.in-Some.bin c.in-Some.amount c.from-from.result c.loop-bin.size.sum c.both-size.result.sum c.row_size.result.sum refl c.in-Some.ensures c.from-from.ensures c.loop-bin.invariant.sum c.row_size.ensures.sum c.both-size.ensures.sum;
  least = next_row least_points c.args.table.now c.loop-bin.from c.in-Some.bin c.in-Some.amount c.from-from.result c.loop-bin.size.least c.both-size.result.least c.row_size.result.least refl c.in-Some.ensures c.from-from.ensures c.loop-bin.invariant.least c.row_size.ensures.least c.both-size.ensures.least;
}

pub returns : goal.returns
returns g c = all_rows c.args.table.now c.loop-bin.from c.loop-bin.size c.in_default.ensures c.loop-bin.invariant.sum c.loop-bin.invariant.least
