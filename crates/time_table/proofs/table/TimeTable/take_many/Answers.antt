use Rattle.std.proofs.Common.{◌≤◌, subst, ap, ◌∙◌, sym}
use Rattle.time_table.specs.Counts.{BinCounts, take_many, count_of}
use Rattle.time_table.proofs.TableForms.{count-form, taken-form, AllCounted-form}
use Rattle.time_table.proofs.table.TimeTable.take_many.Goals as goal

pub take-requires-clause-there : goal.take-requires-clause-there
take-requires-clause-there c =
    subst (λ n. c.args.amount ≤ n) (sym (ap (λ (m : BinCounts). count_of m c.args.bin) c.self.view_is) ∙ count-form c.self.inside.form c.args.bin c.self.invariant) c.requires.there

pub returns-clause-taken : goal.returns-clause-taken
returns-clause-taken c =
    taken-form c.self.inside.form c.take.new.self c.args.bin c.args.amount c.self.invariant c.take.ensures.form c.take.ensures.taken
    ∙ ap (λ (m : BinCounts). take_many m c.args.bin c.args.amount) c.self.view_is

pub returns-clause-counted : goal.returns-clause-counted
returns-clause-counted c = AllCounted-form c.take.new.self c.take.ensures.form
