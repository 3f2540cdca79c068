use Rattle.std.proofs.Common.{◌≡◌, ◌+◌, ◌≤◌, ◌++◌, ap, sym, subst, ◌∙◌}
use Rattle.std.specs.FinMap.{entries, len}
use Rattle.std.proofs.lemmas.Result.{on_ok_weaker}
use Rattle.time_table.specs.Counts.{BinCounts, AllCounted}
use Rattle.time_table.specs.Forms.{form_entries}
use Rattle.time_table.proofs.TableForms.{entries-form, len-form, AllCounted-form}
use Rattle.time_table.proofs.table.TimeTable.put_rows.Goals as goal

pub returns-clause-put : goal.returns-clause-put
returns-clause-put g c =
    on_ok_weaker c.put_form.result
    (λ (is : c.put_form.new.out.items ≡ c.args.out.now.items ++ form_entries c.self.inside.form).
    is ∙ ap (λ es. c.args.out.now.items ++ es) (sym (entries-form c.self.inside.form c.self.invariant) ∙ ap (λ (m : BinCounts). entries m) c.self.view_is))
    c.put_form.ensures.put

pub returns-clause-cost : goal.returns-clause-cost
returns-clause-cost g c =
    subst (λ n. c.put_form.new.steps ≤ c.args.steps.now + n) (sym (len-form c.self.inside.form c.self.invariant) ∙ ap (λ (m : BinCounts). len m) c.self.view_is)
    c.put_form.ensures.cost

pub returns-clause-counted : goal.returns-clause-counted
returns-clause-counted g c = subst AllCounted c.self.view_is (AllCounted-form c.self.inside.form c.self.invariant)
