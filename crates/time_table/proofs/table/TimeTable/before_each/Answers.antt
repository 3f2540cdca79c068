use Rattle.std.proofs.Common.{◌+◌, ◌≤◌, length, subst, ap, ◌∙◌, sym}
use Rattle.std.specs.FinMap.{len}
use Rattle.time_table.specs.Counts.{BinCounts, AllCounted}
use Rattle.time_table.specs.Series.{each_before, each_cost}
use Rattle.time_table.proofs.TableForms.{len-form, AllCounted-form}
use Rattle.time_table.proofs.table.TimeTable.before_each.Goals as goal

pub returns-clause-cost : goal.returns-clause-cost
returns-clause-cost g c =
    subst (λ n. c.before_each.new.steps ≤ c.args.steps.now + each_cost (length c.args.totals.now) n) (sym (len-form c.self.inside.form c.self.invariant) ∙ ap (λ (m : BinCounts). len m) c.self.view_is)
    c.before_each.ensures.cost

pub returns-clause-sums : goal.returns-clause-sums
returns-clause-sums g c = c.before_each.ensures.sums ∙ ap (λ (m : BinCounts). each_before m c.args.from c.args.wide (length c.args.totals.now)) c.self.view_is

pub returns-clause-counted : goal.returns-clause-counted
returns-clause-counted g c = subst AllCounted c.self.view_is (AllCounted-form c.self.inside.form c.self.invariant)
