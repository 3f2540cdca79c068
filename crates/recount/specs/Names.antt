-- The names of the files of an audit.
use Rattle.std.specs.Prelude.{ℕ, List}
use Rattle.recount.specs.declared.text_reading.RecountNames.{RecountNames}

-- Those of the plan, the journal, the script and the replies
pub record AuditNames : Type 0 where
  pub plan : List ℕ
  pub journal : List ℕ
  pub script : List ℕ
  pub replies : List ℕ

-- the names that a call is given
abbrev pub audit_names : RecountNames → AuditNames
audit_names names = record { plan = names.plan.now; journal = names.journal.now; script = names.script.now; replies = names.replies.now }
