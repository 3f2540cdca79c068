use Rattle.std.proofs.Common.{◌≡◌, map, length, ap, sym, ◌∙◌}
use Rattle.std.proofs.lemmas.List.{nil_from_length, length-map}
use Rattle.probe_core.specs.Roomy.{Roomy}
use Rattle.time_table.specs.declared.row.Row.{Row}
use Rattle.time_table.proofs.row_list.RowList.is_empty.Goals as goal

pub returns : goal.returns
returns g c =
    let seen : map g.T.StoredRow.seen c.self.inside.stored.items ≡ c.args.self.now.items = ap (λ (v : Roomy Row). v.items) c.self.view_is in (
      λ yes. sym seen ∙ ap (map g.T.StoredRow.seen) (c.is_empty.ensures.0 yes),
      λ none. c.is_empty.ensures.1 (nil_from_length c.self.inside.stored.items (sym (length-map c.self.inside.stored.items g.T.StoredRow.seen) ∙ ap length (seen ∙ none))),
    )
