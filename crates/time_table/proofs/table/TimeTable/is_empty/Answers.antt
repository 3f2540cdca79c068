use Rattle.std.proofs.Common.{[], ap, sym, subst, ◌∙◌}
use Rattle.std.specs.FinMap.{len}
use Rattle.std.proofs.lemmas.List.{nil_from_length}
use Rattle.time_table.specs.Counts.{BinCounts, AllCounted}
use Rattle.time_table.specs.Totals.{counts}
use Rattle.time_table.specs.Forms.{rows_of}
use Rattle.time_table.proofs.RowCounts.{counts-nil, len-counts}
use Rattle.time_table.proofs.TableForms.{len-form, AllCounted-form}
use Rattle.time_table.proofs.table.TimeTable.is_empty.Goals as goal

pub returns-clause-empty : goal.returns-clause-empty
returns-clause-empty c = (
  λ is. sym c.self.view_is ∙ ap counts (c.is_bare.ensures.0 is) ∙ counts-nil,
  λ none. c.is_bare.ensures.1 (nil_from_length (rows_of c.self.inside.form)
      (sym (len-form c.self.inside.form c.self.invariant) ∙ ap (λ (m : BinCounts). len m) (c.self.view_is ∙ none ∙ sym counts-nil) ∙ len-counts [] tt)),
)

pub returns-clause-counted : goal.returns-clause-counted
returns-clause-counted c = subst AllCounted c.self.view_is (AllCounted-form c.self.inside.form c.self.invariant)
