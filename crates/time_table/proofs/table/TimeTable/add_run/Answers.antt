use Rattle.std.proofs.Common.{◌≡◌, ◌+◌, ◌≤◌, ◌^◌, subst, ap, ◌∙◌, sym}
use Rattle.std.proofs.lemmas.Result.{on_ok_weaker, on_err_weaker}
use Rattle.time_table.specs.Counts.{BinCounts, AllCounted, add_run, run_total, total_count}
use Rattle.time_table.specs.Places.{more_run}
use Rattle.time_table.specs.Forms.{form_entries}
use Rattle.time_table.proofs.TableForms.{total-form, run-form, same-form, AllCounted-form}
use Rattle.time_table.proofs.Runs.{AllCounted-either}
use Rattle.time_table.proofs.table.TimeTable.add_run.Goals as goal

pub is_mergeable-requires-clause-fits : goal.is_mergeable-requires-clause-fits
is_mergeable-requires-clause-fits c =
    subst (λ n. n + run_total c.args.run.now ≤ 2 ^ 63) (sym (ap (λ (m : BinCounts). total_count m) c.self.view_is) ∙ total-form c.self.inside.form c.self.invariant) c.requires.fits

pub returns-then-is_mergeable-clause-added : goal.returns-then-is_mergeable-clause-added
returns-then-is_mergeable-clause-added c =
    on_ok_weaker c.merge.result
    (λ (is : form_entries c.merge.new.self ≡ more_run c.args.run.now (form_entries c.self.inside.form)).
    run-form c.self.inside.form c.merge.new.self c.args.run.now c.self.invariant c.merge.ensures.form is
    ∙ ap (λ (m : BinCounts). add_run m c.args.run.now) c.self.view_is)
    c.merge.ensures.added

pub returns-then-is_mergeable-clause-unchanged : goal.returns-then-is_mergeable-clause-unchanged
returns-then-is_mergeable-clause-unchanged c =
    on_err_weaker c.merge.result
    (λ (is : form_entries c.merge.new.self ≡ form_entries c.self.inside.form).
    same-form c.self.inside.form c.merge.new.self c.self.invariant c.merge.ensures.form is ∙ c.self.view_is)
    c.merge.ensures.unchanged

pub returns-then-is_mergeable-clause-was_counted : goal.returns-then-is_mergeable-clause-was_counted
returns-then-is_mergeable-clause-was_counted c = subst AllCounted c.self.view_is (AllCounted-form c.self.inside.form c.self.invariant)

pub returns-then-is_mergeable-clause-counted : goal.returns-then-is_mergeable-clause-counted
returns-then-is_mergeable-clause-counted c = AllCounted-form c.merge.new.self c.merge.ensures.form

pub add_each-requires-clause-was_counted : goal.add_each-requires-clause-was_counted
add_each-requires-clause-was_counted c = subst AllCounted c.self.view_is (AllCounted-form c.self.inside.form c.self.invariant)

pub returns-clause-was_counted : goal.returns-clause-was_counted
returns-clause-was_counted c = subst AllCounted c.self.view_is (AllCounted-form c.self.inside.form c.self.invariant)

pub returns-clause-counted : goal.returns-clause-counted
returns-clause-counted c = AllCounted-either c.add_each.result c.args.self.now c.add_each.new.self c.args.run.now c.requires.run.some (subst AllCounted c.self.view_is (AllCounted-form c.self.inside.form c.self.invariant)) c.add_each.ensures.added c.add_each.ensures.unchanged
