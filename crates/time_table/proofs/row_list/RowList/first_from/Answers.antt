use Rattle.std.proofs.Common.{ap}
use Rattle.probe_core.specs.Roomy.{Roomy}
use Rattle.time_table.specs.declared.row.Row.{Row}
use Rattle.time_table.proofs.StoredRows.{stored_rises, stored_place, stored_before, stored_first}
use Rattle.time_table.proofs.row_list.RowList.first_from.Goals as goal

pub first_from-place-requires : goal.first_from-place-requires
first_from-place-requires g c =
    stored_rises g.T.StoredRow.seen g.T.Keyed.key g.met.T.StoredRow.by_bin c.self.inside.stored.items c.args.self.now.items (ap (λ (v : Roomy Row). v.items) c.self.view_is) c.requires

pub returns-clause-place : goal.returns-clause-place
returns-clause-place g c =
    stored_place g.T.StoredRow.seen g.T.Keyed.key g.met.T.StoredRow.by_bin c.args.from c.self.inside.stored.items c.args.self.now.items _ (ap (λ (v : Roomy Row). v.items) c.self.view_is) c.first_from-place.ensures.place

pub returns-clause-before : goal.returns-clause-before
returns-clause-before g c =
    stored_before g.T.StoredRow.seen c.self.inside.stored.items c.args.self.now.items _ _ _ (ap (λ (v : Roomy Row). v.items) c.self.view_is) c.first_from-place.ensures.before c.loaded.ensures

pub returns-clause-first : goal.returns-clause-first
returns-clause-first g c =
    stored_first g.T.StoredRow.seen c.self.inside.stored.items c.args.self.now.items _ _ _ (ap (λ (v : Roomy Row). v.items) c.self.view_is) c.first_from-place.ensures.first c.loaded-2.ensures
