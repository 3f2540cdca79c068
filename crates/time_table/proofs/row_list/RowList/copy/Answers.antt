use Rattle.std.proofs.Common.{map, ap, ◌∙◌}
use Rattle.probe_core.specs.Roomy.{Roomy}
use Rattle.time_table.specs.declared.row.Row.{Row}
use Rattle.time_table.proofs.row_list.RowList.copy.Goals as goal

pub returns : goal.returns
returns g c = ap (map g.T.StoredRow.seen) c.in_ok-stored.ensures ∙ ap (λ (v : Roomy Row). v.items) c.self.view_is
