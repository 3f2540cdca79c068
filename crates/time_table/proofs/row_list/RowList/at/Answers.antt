use Rattle.std.proofs.Common.{ap}
use Rattle.probe_core.specs.Roomy.{Roomy}
use Rattle.time_table.specs.declared.row.Row.{Row}
use Rattle.time_table.proofs.StoredRows.{stored_read}
use Rattle.time_table.proofs.row_list.RowList.at.Goals as goal

pub returns-clause-item : goal.returns-clause-item
returns-clause-item g c =
    stored_read g.T.StoredRow.seen c.self.inside.stored.items c.args.self.now.items c.args.i c.at.result c.load.result
    (ap (λ (v : Roomy Row). v.items) c.self.view_is) c.requires c.at.ensures.item c.load.ensures.row
