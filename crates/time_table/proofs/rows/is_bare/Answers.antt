use Rattle.std.proofs.Common.{sym, ap, subst, ◌∙◌}
use Rattle.time_table.specs.Forms.{IsForm, rows_of}
use Rattle.time_table.proofs.TableForms.{not_bare}
use Rattle.time_table.proofs.rows.is_bare.Goals as goal

pub returns-in-Split : goal.returns-in-Split
returns-in-Split c =
    let s = c.in-Split.field-0.value in
    (λ no. absurd cc, λ bare. absurd (not_bare _ s.heads.items s.blocks.items (subst IsForm c.in-Split.is c.requires) (ap rows_of (sym c.in-Split.is) ∙ bare)))

pub returns-in-WideSplit : goal.returns-in-WideSplit
returns-in-WideSplit c =
    let s = c.in-WideSplit.field-0.value in
    (λ no. absurd cc, λ bare. absurd (not_bare _ s.heads.items s.blocks.items (subst IsForm c.in-WideSplit.is c.requires) (ap rows_of (sym c.in-WideSplit.is) ∙ bare)))
