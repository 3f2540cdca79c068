-- What is answered of a verdict.
use Rattle.recount.specs.declared.verdict.Verdict.{Verdict}
use Rattle.recount.specs.declared.verdict.Verdict.TheVariants as verdict
use Rattle.recount.specs.declared.audit.Audit.{Audit}
use Rattle.recount.specs.declared.audit.Audit.TheVariants.{Agrees, Differs}

-- whether it is that the texts agree
abbrev pub audit_of : Verdict → Audit
audit_of (verdict.Agree replies without) = Agrees
audit_of (verdict.Journal line why) = Differs
audit_of (verdict.Replies place why) = Differs
