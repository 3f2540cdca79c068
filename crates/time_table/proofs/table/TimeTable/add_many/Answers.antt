use Rattle.std.proofs.Common.{◌≡◌, ◌+◌, ◌≤◌, ◌^◌, subst, ap, ◌∙◌, sym}
use Rattle.std.proofs.lemmas.Result.{on_ok_weaker, on_err_weaker}
use Rattle.time_table.specs.Counts.{BinCounts, AllCounted, add_many, total_count}
use Rattle.time_table.specs.Places.{more}
use Rattle.time_table.specs.Forms.{form_entries}
use Rattle.time_table.proofs.TableForms.{total-form, added-form, same-form, AllCounted-form}
use Rattle.time_table.proofs.table.TimeTable.add_many.Goals as goal

pub add-requires-clause-fits : goal.add-requires-clause-fits
add-requires-clause-fits c =
    subst (λ n. n + c.args.amount ≤ 2 ^ 63) (sym (ap (λ (m : BinCounts). total_count m) c.self.view_is) ∙ total-form c.self.inside.form c.self.invariant) c.requires.fits

pub returns-clause-added : goal.returns-clause-added
returns-clause-added c =
    on_ok_weaker c.add.result
    (λ (is : form_entries c.add.new.self ≡ more c.args.bin c.args.amount (form_entries c.self.inside.form)).
    added-form c.self.inside.form c.add.new.self c.args.bin c.args.amount c.self.invariant c.add.ensures.form is
    ∙ ap (λ (m : BinCounts). add_many m c.args.bin c.args.amount) c.self.view_is)
    c.add.ensures.added

pub returns-clause-unchanged : goal.returns-clause-unchanged
returns-clause-unchanged c =
    on_err_weaker c.add.result
    (λ (is : form_entries c.add.new.self ≡ form_entries c.self.inside.form).
    same-form c.self.inside.form c.add.new.self c.self.invariant c.add.ensures.form is ∙ c.self.view_is)
    c.add.ensures.unchanged

pub returns-clause-was_counted : goal.returns-clause-was_counted
returns-clause-was_counted c = subst AllCounted c.self.view_is (AllCounted-form c.self.inside.form c.self.invariant)

pub returns-clause-counted : goal.returns-clause-counted
returns-clause-counted c = AllCounted-form c.add.new.self c.add.ensures.form
