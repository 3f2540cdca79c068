use Rattle.std.proofs.Common.{sym, ap, subst, ◌∙◌}
use Rattle.time_table.specs.Counts.{count_before}
use Rattle.time_table.specs.Totals.{counts}
use Rattle.time_table.specs.declared.form.Form.{Form}
use Rattle.time_table.specs.Forms.{IsSingle, IsForm, rows_of}
use Rattle.time_table.proofs.RowCounts.{count_before-counts}
use Rattle.time_table.proofs.form.Form.before.Goals as goal

pub returns-in-Single-clause-sum : goal.returns-in-Single-clause-sum
returns-in-Single-clause-sum g c =
    let single : IsSingle c.in-Single.rows.items = subst IsForm c.in-Single.is c.requires in
    let place = c.place_of.ensures.place in
    c.place_of.ensures.total
    ∙ count_before-counts c.in-Single.rows.items c.place_of.result.index c.args.bin_end single.rise place.lesser place.others
    ∙ ap (λ (f : Form). count_before (counts (rows_of f)) c.args.bin_end) (sym c.in-Single.is)

pub returns-in-WideSingle-clause-sum : goal.returns-in-WideSingle-clause-sum
returns-in-WideSingle-clause-sum g c =
    let single : IsSingle c.in-WideSingle.rows.items = subst IsForm c.in-WideSingle.is c.requires in
    let place = c.place_of-in-WideSingle.ensures.place in
    c.place_of-in-WideSingle.ensures.total
    ∙ count_before-counts c.in-WideSingle.rows.items c.place_of-in-WideSingle.result.index c.args.bin_end single.rise place.lesser place.others
    ∙ ap (λ (f : Form). count_before (counts (rows_of f)) c.args.bin_end) (sym c.in-WideSingle.is)
