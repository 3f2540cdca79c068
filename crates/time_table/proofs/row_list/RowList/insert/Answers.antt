use Rattle.std.proofs.Common.{◌≡◌, ap}
use Rattle.probe_core.specs.Roomy.{Roomy}
use Rattle.time_table.specs.declared.row.Row.{Row}
use Rattle.std.specs.List.{insert}
use Rattle.std.proofs.lemmas.Result.{on_ok_weaker}
use Rattle.time_table.proofs.StoredRows.{stored_insert}
use Rattle.time_table.proofs.row_list.RowList.insert.Goals as goal

pub returns-clause-inserted : goal.returns-clause-inserted
returns-clause-inserted g c =
    on_ok_weaker c.insert.result
    (λ (put : c.insert.new.self.items ≡ insert c.self.inside.stored.items c.args.i c.store.result).
    stored_insert g.T.StoredRow.seen c.self.inside.stored.items c.insert.new.self.items c.args.self.now.items c.args.i c.store.result c.args.row (ap (λ (v : Roomy Row). v.items) c.self.view_is) c.store.ensures put)
    c.insert.ensures.inserted
