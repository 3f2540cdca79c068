use Rattle.std.proofs.Common.{◌≡◌, ◌≤◌, length, sym, ap, subst, ◌∙◌}
use Rattle.time_table.specs.Totals.{counts_from}
use Rattle.time_table.specs.Places.{count_at, less}
use Rattle.time_table.specs.Blocks.{Block}
use Rattle.time_table.specs.Forms.{IsSingle, IsForm, form_entries}
use Rattle.time_table.proofs.FewerRecords.{counts_from-taken}
use Rattle.time_table.proofs.TableForms.{single_taken, sole}
use Rattle.time_table.proofs.form.Form.take.Goals as goal

pub returns-in-Single-clause-form : goal.returns-in-Single-clause-form
returns-in-Single-clause-form g c =
    let single : IsSingle c.in-Single.rows.items = subst IsForm c.in-Single.is c.requires.form in
    let there : c.args.amount ≤ count_at c.args.bin (counts_from 0 c.in-Single.rows.items) = subst (λ es. c.args.amount ≤ count_at c.args.bin es) (ap form_entries c.in-Single.is) c.requires.there in
    single_taken c.args.bin c.args.amount c.in-Single.rows.items c.take_record.new.rows.items single c.requires.some there c.take_record.ensures.taken

pub returns-in-Single-clause-taken : goal.returns-in-Single-clause-taken
returns-in-Single-clause-taken g c =
    let single : IsSingle c.in-Single.rows.items = subst IsForm c.in-Single.is c.requires.form in
    let there : c.args.amount ≤ count_at c.args.bin (counts_from 0 c.in-Single.rows.items) = subst (λ es. c.args.amount ≤ count_at c.args.bin es) (ap form_entries c.in-Single.is) c.requires.there in
    ap (counts_from 0) c.take_record.ensures.taken
    ∙ counts_from-taken 0 0 c.args.bin c.args.amount c.in-Single.rows.items single.rise c.requires.some there
    ∙ ap (less c.args.bin c.args.amount) (ap form_entries (sym c.in-Single.is))

pub returns-in-Split-clause-form : goal.returns-in-Split-clause-form
returns-in-Split-clause-form g c =
    let one : length c.take_in.new.blocks.items ≡ 1 = c.if-not-take_in.ensures.sized in
    (sole c.take_in.new.heads.items c.take_in.new.blocks.items c.remove-short.result c.take_in.ensures.held.held one c.remove-short.ensures.value (subst (λ (b : Block). length b.items ≤ 63) (sym c.remove-short.ensures.value) (c.take_in.ensures.short c.remove-short.result c.if-not-take_in.false))).0

pub returns-clause-form : goal.returns-clause-form
returns-clause-form g c =
    let one : length c.take_in-in-WideSplit.new.blocks.items ≡ 1 = c.if-not-take_in-2.ensures.sized in
    (sole c.take_in-in-WideSplit.new.heads.items c.take_in-in-WideSplit.new.blocks.items c.remove-short-in-WideSplit.result c.take_in-in-WideSplit.ensures.held.held one c.remove-short-in-WideSplit.ensures.value (subst (λ (b : Block). length b.items ≤ 63) (sym c.remove-short-in-WideSplit.ensures.value) (c.take_in-in-WideSplit.ensures.short c.remove-short-in-WideSplit.result c.if-not-take_in-2.false))).0

pub returns-in-WideSingle-clause-form : goal.returns-in-WideSingle-clause-form
returns-in-WideSingle-clause-form g c =
    let single : IsSingle c.in-WideSingle.rows.items = subst IsForm c.in-WideSingle.is c.requires.form in
    let there : c.args.amount ≤ count_at c.args.bin (counts_from 0 c.in-WideSingle.rows.items) = subst (λ es. c.args.amount ≤ count_at c.args.bin es) (ap form_entries c.in-WideSingle.is) c.requires.there in
    single_taken c.args.bin c.args.amount c.in-WideSingle.rows.items c.take_record-in-WideSingle.new.rows.items single c.requires.some there c.take_record-in-WideSingle.ensures.taken

pub returns-in-WideSingle-clause-taken : goal.returns-in-WideSingle-clause-taken
returns-in-WideSingle-clause-taken g c =
    let single : IsSingle c.in-WideSingle.rows.items = subst IsForm c.in-WideSingle.is c.requires.form in
    let there : c.args.amount ≤ count_at c.args.bin (counts_from 0 c.in-WideSingle.rows.items) = subst (λ es. c.args.amount ≤ count_at c.args.bin es) (ap form_entries c.in-WideSingle.is) c.requires.there in
    ap (counts_from 0) c.take_record-in-WideSingle.ensures.taken
    ∙ counts_from-taken 0 0 c.args.bin c.args.amount c.in-WideSingle.rows.items single.rise c.requires.some there
    ∙ ap (less c.args.bin c.args.amount) (ap form_entries (sym c.in-WideSingle.is))
