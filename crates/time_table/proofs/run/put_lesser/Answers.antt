use Rattle.std.proofs.Common.{◌+◌, ◌<◌, get_or, arith, ap}
use Rattle.time_table.specs.declared.row.Row.{Row}
use Rattle.time_table.proofs.run.put_lesser.Goals as goal

pub overflow_add-raised : goal.overflow_add-raised
overflow_add-raised g c =
    let fits : (get_or c.args.rows.now.items c.loop-i.i c.at-bin.result).total + c.args.amount < g.T.StoredRow.limit = c.requires.fits c.loop-i.i c.at-bin.result (omega arith) in
    omega (arith, fits, ap (λ (x : Row). x.total) c.at-bin.ensures.item, c.at-bin.ensures.limit)

pub put_last-requires : goal.put_last-requires
put_last-requires g c =
    let fits : (get_or c.args.rows.now.items c.loop-i.i c.at-bin.result).total + c.args.amount < g.T.StoredRow.limit = c.requires.fits c.loop-i.i c.at-bin.result (omega arith) in
    omega (arith, fits, ap (λ (x : Row). x.total) c.at-bin.ensures.item)
