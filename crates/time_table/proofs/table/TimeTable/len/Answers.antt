use Rattle.std.proofs.Common.{ap, sym, ◌∙◌}
use Rattle.std.specs.FinMap.{len}
use Rattle.time_table.specs.Counts.{BinCounts}
use Rattle.time_table.proofs.TableForms.{len-form}
use Rattle.time_table.proofs.table.TimeTable.len.Goals as goal

pub returns-clause-count : goal.returns-clause-count
returns-clause-count c = c.form_len.ensures.count ∙ sym (len-form c.self.inside.form c.self.invariant) ∙ ap (λ (m : BinCounts). len m) c.self.view_is
