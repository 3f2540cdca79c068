use Rattle.std.proofs.Common.{◌≡◌, ◌+◌, ◌-◌, ◌<◌, get_or, length, arith, ap}
use Rattle.time_table.specs.declared.row.Row.{Row}
use Rattle.time_table.specs.Totals.{last_total}
use Rattle.time_table.proofs.TwoRowLists.{last_total_at, length-end, appended_more}
use Rattle.time_table.proofs.pair.append.Goals as goal

pub overflow_add-row : goal.overflow_add-row
overflow_add-row g c =
    let below : c.at-below.result.total ≡ last_total 0 c.args.left.now.items = last_total_at 0 (c.len.result - 1) c.args.left.now.items c.at-below.result (omega arith) c.at-below.ensures.item in
    let fits : (get_or c.args.right.now.items c.loop-i.i c.at-bin.result).total + last_total 0 c.args.left.now.items < g.T.StoredRow.limit = c.requires.fits c.loop-i.i c.at-bin.result (omega arith) in
    let read : c.at-bin.result.total ≡ (get_or c.args.right.now.items c.loop-i.i c.at-bin.result).total = ap (λ (x : Row). x.total) c.at-bin.ensures.item in
    omega (arith, below, fits, read, c.at-bin.ensures.limit)

pub put_row-requires-clause-small : goal.put_row-requires-clause-small
put_row-requires-clause-small g c =
    let below : c.at-below.result.total ≡ last_total 0 c.args.left.now.items = last_total_at 0 (c.len.result - 1) c.args.left.now.items c.at-below.result (omega arith) c.at-below.ensures.item in
    let fits : (get_or c.args.right.now.items c.loop-i.i c.at-bin.result).total + last_total 0 c.args.left.now.items < g.T.StoredRow.limit = c.requires.fits c.loop-i.i c.at-bin.result (omega arith) in
    let read : c.at-bin.result.total ≡ (get_or c.args.right.now.items c.loop-i.i c.at-bin.result).total = ap (λ (x : Row). x.total) c.at-bin.ensures.item in
    omega (arith, below, fits, read)

pub loop-i-preserved : goal.loop-i-preserved
loop-i-preserved g c =
    let below : c.at-below.result.total ≡ last_total 0 c.args.left.now.items = last_total_at 0 (c.len.result - 1) c.args.left.now.items c.at-below.result (omega arith) c.at-below.ensures.item in
    let longer : length c.put_row.new.rows.items ≡ length c.loop-i.left.items + 1 = length-end c.loop-i.left.items c.put_row.new.rows.items _ _ (omega arith) c.put_row.ensures.put in
    record {
      put = appended_more c.loop-i.i _ c.args.left.now.items c.args.right.now.items c.loop-i.left.items c.put_row.new.rows.items c.at-bin.result _ (omega arith) c.at-bin.ensures.item c.loop-i.invariant.put
          (ap (λ k. record { bin = c.at-bin.result.bin; total = c.at-bin.result.total + k }) below) (omega arith) c.put_row.ensures.put;
      long = omega (arith, longer, c.loop-i.invariant.long);
      room = omega (arith, longer, c.put_row.ensures.room, c.loop-i.invariant.room);
    }
