use Rattle.std.proofs.Common.{◌≡◌, ◌+◌, ◌<◌, ◌^◌, arith, sym, ap, subst, ◌∙◌}
use Rattle.std.proofs.lemmas.Result.{on_ok_weaker}
use Rattle.time_table.specs.declared.row.Row.{Row}
use Rattle.time_table.specs.declared.form.Split.{Split}
use Rattle.time_table.specs.Totals.{counts_from, last_total}
use Rattle.time_table.specs.Places.{added, more}
use Rattle.time_table.specs.Forms.{IsSingle, IsForm, HasRoom, MayRise, form_entries}
use Rattle.time_table.proofs.MoreRecords.{counts_from-added}
use Rattle.time_table.proofs.TableForms.{single_either}
use Rattle.time_table.proofs.form.Form.add.Goals as goal

pub returns-in-Single-clause-form : goal.returns-in-Single-clause-form
returns-in-Single-clause-form g c =
    let single : IsSingle c.in-Single.rows.items = subst IsForm c.in-Single.is c.grow.ensures.form in
    let room = subst (HasRoom c.args.bin) c.in-Single.is c.in_ok-grow.ensures.room in
    single_either c.add_record.result c.args.bin c.args.amount c.in-Single.rows.items c.add_record.new.rows.items single (room c.args.amount) c.requires.some (omega arith) c.add_record.ensures.added c.add_record.ensures.unchanged

pub returns-in-Single-clause-added : goal.returns-in-Single-clause-added
returns-in-Single-clause-added g c =
    let single : IsSingle c.in-Single.rows.items = subst IsForm c.in-Single.is c.grow.ensures.form in
    on_ok_weaker c.add_record.result
    (λ (is : c.add_record.new.rows.items ≡ added 0 c.args.bin c.args.amount c.in-Single.rows.items).
    ap (counts_from 0) is
    ∙ counts_from-added 0 0 c.args.bin c.args.amount c.in-Single.rows.items single.rise
    ∙ ap (more c.args.bin c.args.amount) (ap form_entries (sym c.in-Single.is) ∙ (c.grow.ensures.same ∙ (c.widen.ensures.same ∙ (c.list.ensures.same ∙ ap form_entries (c.add_few.ensures.unchanged c.if-add_few.false))))))
    c.add_record.ensures.added

pub returns-in-WideSingle-clause-form : goal.returns-in-WideSingle-clause-form
returns-in-WideSingle-clause-form g c =
    let single : IsSingle c.in-WideSingle.rows.items = subst IsForm c.in-WideSingle.is c.grow.ensures.form in
    let room = subst (HasRoom c.args.bin) c.in-WideSingle.is c.in_ok-grow.ensures.room in
    single_either c.add_record-in-WideSingle.result c.args.bin c.args.amount c.in-WideSingle.rows.items c.add_record-in-WideSingle.new.rows.items single (room c.args.amount) c.requires.some (omega arith) c.add_record-in-WideSingle.ensures.added c.add_record-in-WideSingle.ensures.unchanged

pub returns-in-WideSingle-clause-added : goal.returns-in-WideSingle-clause-added
returns-in-WideSingle-clause-added g c =
    let single : IsSingle c.in-WideSingle.rows.items = subst IsForm c.in-WideSingle.is c.grow.ensures.form in
    on_ok_weaker c.add_record-in-WideSingle.result
    (λ (is : c.add_record-in-WideSingle.new.rows.items ≡ added 0 c.args.bin c.args.amount c.in-WideSingle.rows.items).
    ap (counts_from 0) is
    ∙ counts_from-added 0 0 c.args.bin c.args.amount c.in-WideSingle.rows.items single.rise
    ∙ ap (more c.args.bin c.args.amount) (ap form_entries (sym c.in-WideSingle.is) ∙ (c.grow.ensures.same ∙ (c.widen.ensures.same ∙ (c.list.ensures.same ∙ ap form_entries (c.add_few.ensures.unchanged c.if-add_few.false))))))
    c.add_record-in-WideSingle.ensures.added

-- a list that goes on with 32 bits may rise by the amount
pub add_record-requires-clause-fits : goal.add_record-requires-clause-fits
add_record-requires-clause-fits g c =
    let small : last_total 0 c.in-Single.rows.items + c.args.amount < 2 ^ 32 = subst (MayRise c.args.amount) c.in-Single.is (c.grow.ensures.small c.args.amount c.in_ok-widen.ensures.small) in
    record { half = omega (arith, small); small = small }

pub add_in-requires-clause-fits : goal.add_in-requires-clause-fits
add_in-requires-clause-fits g c =
    let small : last_total 0 c.in-Split.split.value.heads.items + c.args.amount < 2 ^ 32 = subst (MayRise c.args.amount) c.in-Split.is (c.grow.ensures.small c.args.amount c.in_ok-widen.ensures.small) in
    let same = ap (λ (s : Split Row). last_total 0 s.heads.items) c.deref_mut.ensures.value in
    record { half = omega (arith, small, same); small = omega (arith, small, same) }
