use Rattle.std.proofs.Common.{◌+◌, ◌≤◌, subst, ap, ◌∙◌, sym, arith}
use Rattle.std.specs.FinMap.{len}
use Rattle.probe_core.specs.Bits.{bits}
use Rattle.time_table.specs.Counts.{BinCounts, AllCounted}
use Rattle.time_table.proofs.TableForms.{len-form, AllCounted-form, find_cost-le}
use Rattle.time_table.proofs.table.TimeTable.before.Goals as goal

pub returns-clause-cost : goal.returns-clause-cost
returns-clause-cost g c =
    subst (λ n. c.before-2.new.steps ≤ c.args.steps.now + (1 + bits n)) (sym (len-form c.self.inside.form c.self.invariant) ∙ ap (λ (m : BinCounts). len m) c.self.view_is)
    (let most = find_cost-le c.self.inside.form c.self.invariant in omega (arith, most, c.before-2.ensures.cost))

pub returns-clause-counted : goal.returns-clause-counted
returns-clause-counted g c = subst AllCounted c.self.view_is (AllCounted-form c.self.inside.form c.self.invariant)
