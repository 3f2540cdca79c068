use Rattle.std.proofs.Common.{◌≡◌, ◌+◌, ◌≤◌, length, arith, sym, ap, subst, ◌∙◌}
use Rattle.probe_core.specs.Bits.{bits}
use Rattle.time_table.specs.Counts.{first_from}
use Rattle.time_table.specs.Totals.{counts_from}
use Rattle.time_table.specs.declared.form.Form.{Form}
use Rattle.time_table.specs.Forms.{IsSingle, IsForm, form_entries, rows_of}
use Rattle.time_table.specs.Fews.{few_rows}
use Rattle.time_table.proofs.TableForms.{few-le}
use Rattle.time_table.proofs.form.Form.next_row.Goals as goal

pub next_in-requires : goal.next_in-requires
next_in-requires g c =
    let single : IsSingle c.in-Single.rows.items = subst IsForm c.in-Single.is c.requires in
    single.rise

pub returns-in-Single-clause-next : goal.returns-in-Single-clause-next
returns-in-Single-clause-next g c =
    c.next_in.ensures.next
    ∙ ap (λ k. first_from k (counts_from 0 c.in-Single.rows.items)) c.from.ensures
    ∙ ap (first_from c.args.from) (ap form_entries (sym c.in-Single.is))

pub returns-in-Single-clause-cost : goal.returns-in-Single-clause-cost
returns-in-Single-clause-cost g c =
    let cost : c.next_in.new.steps ≤ c.args.steps.now + bits (length c.in-Single.rows.items) = c.next_in.ensures.cost in
    subst (λ (f : Form). c.next_in.new.steps ≤ c.args.steps.now + (1 + bits (length (rows_of f)))) (sym c.in-Single.is) (omega arith)

pub returns-in-Few-clause-cost : goal.returns-in-Few-clause-cost
returns-in-Few-clause-cost g c =
    let most : length (few_rows c.in-Few.few) ≤ 1 + bits (length (few_rows c.in-Few.few)) = (few-le c.in-Few.few).1 in
    let cost : c.next_row.new.steps ≡ c.args.steps.now + length (few_rows c.in-Few.few) = c.next_row.ensures.cost in
    subst (λ (f : Form). c.next_row.new.steps ≤ c.args.steps.now + (1 + bits (length (rows_of f)))) (sym c.in-Few.is) (omega arith)

pub next_in-requires-in-WideSingle : goal.next_in-requires-in-WideSingle
next_in-requires-in-WideSingle g c =
    let single : IsSingle c.in-WideSingle.rows.items = subst IsForm c.in-WideSingle.is c.requires in
    single.rise

pub returns-in-WideSingle-clause-next : goal.returns-in-WideSingle-clause-next
returns-in-WideSingle-clause-next g c =
    c.next_in-in-WideSingle.ensures.next
    ∙ ap (λ k. first_from k (counts_from 0 c.in-WideSingle.rows.items)) c.from-in-WideSingle.ensures
    ∙ ap (first_from c.args.from) (ap form_entries (sym c.in-WideSingle.is))

pub returns-in-WideSingle-clause-cost : goal.returns-in-WideSingle-clause-cost
returns-in-WideSingle-clause-cost g c =
    let cost : c.next_in-in-WideSingle.new.steps ≤ c.args.steps.now + bits (length c.in-WideSingle.rows.items) = c.next_in-in-WideSingle.ensures.cost in
    subst (λ (f : Form). c.next_in-in-WideSingle.new.steps ≤ c.args.steps.now + (1 + bits (length (rows_of f)))) (sym c.in-WideSingle.is) (omega arith)
