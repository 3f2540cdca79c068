use Rattle.std.proofs.Common.{ap}
use Rattle.probe_core.specs.Roomy.{Roomy}
use Rattle.time_table.specs.declared.row.Row.{Row}
use Rattle.time_table.proofs.StoredRows.{stored_read, stored_remove}
use Rattle.time_table.proofs.row_list.RowList.remove.Goals as goal

pub returns-clause-item : goal.returns-clause-item
returns-clause-item g c =
    stored_read g.T.StoredRow.seen c.self.inside.stored.items c.args.self.now.items c.args.i c.remove.result c.load.result
    (ap (λ (v : Roomy Row). v.items) c.self.view_is) c.requires c.remove.ensures.item c.load.ensures.row

pub returns-clause-removed : goal.returns-clause-removed
returns-clause-removed g c =
    stored_remove g.T.StoredRow.seen c.self.inside.stored.items c.remove.new.self.items c.args.self.now.items c.args.i (ap (λ (v : Roomy Row). v.items) c.self.view_is) c.remove.ensures.removed
