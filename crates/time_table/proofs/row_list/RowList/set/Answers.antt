use Rattle.std.proofs.Common.{ap}
use Rattle.probe_core.specs.Roomy.{Roomy}
use Rattle.time_table.specs.declared.row.Row.{Row}
use Rattle.time_table.proofs.StoredRows.{stored_set}
use Rattle.time_table.proofs.row_list.RowList.set.Goals as goal

pub returns-clause-written : goal.returns-clause-written
returns-clause-written g c =
    stored_set g.T.StoredRow.seen c.self.inside.stored.items c.set.new.self.items c.args.self.now.items c.args.i c.store.result c.args.row (ap (λ (v : Roomy Row). v.items) c.self.view_is) c.store.ensures c.set.ensures.written
