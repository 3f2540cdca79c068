-- What is put of a verdict.
use Rattle.std.specs.Prelude.{◌≡◌, ◌⊎◌, ◌↔◌, ℕ, List, length, Result, Err, IfOk}
use Rattle.cube_schema.specs.declared.plan.Plan.{Plan}
use Rattle.run_files.specs.Outside.{Silent, SinkSeen}
use Rattle.run_files.specs.Saying.{SaysText}
use Rattle.run_files.specs.declared.stop.Stop.{Stop}
use Rattle.run_files.specs.declared.stop.Stop.TheVariants.{NoMemory}
use Rattle.recount.specs.Agreement.{IsAgreement}
use Rattle.recount.specs.Verdicts.{HasVerdict, IsAgree}
use Rattle.recount.specs.declared.verdict.Verdict.{Verdict}
use Rattle.recount.specs.Audits.{audit_of}
use Rattle.recount.specs.VerdictLines.{verdict_line}
use Rattle.recount.specs.declared.audit.Audit.{Audit}
use Rattle.recount.specs.declared.text_reading.Texts.{Texts}

-- The verdict is the one that a journal, a script and replies have under a plan
pub record HasVerdictUnder (plan : Plan) (journal script replies : List ℕ) (v : Verdict) : Type 0 where
  -- they have it, for as many feeders as the plan has feeds
  pub decided : HasVerdict plan.schema (length plan.feeds) journal script replies v
  -- and no other
  pub only : (w : Verdict) → HasVerdict plan.schema (length plan.feeds) journal script replies w → w ≡ v
  -- it is that they agree exactly where they do
  pub agrees : IsAgree v ↔ IsAgreement plan.schema (length plan.feeds) journal script replies

-- what auditing texts under a plan leaves of a sink, and answers
module _ {O : Type 0} (s : SinkSeen O) (out out' : O) (plan : Plan) (texts : Texts) (result : Result Audit Stop) where
  -- The line of their verdict was put, or how that ends the audit
  pub record SaysVerdict : Type 0 where
    pub verdict : Verdict
    pub has : HasVerdictUnder plan texts.journal texts.script texts.replies verdict
    pub says : SaysText s out out' (verdict_line verdict) result
    -- with Ok the answer says whether they agree
    pub audit_is : IfOk result (λ audit. audit ≡ audit_of verdict)

  -- so it was, or memory was wanted before, and nothing was put
  abbrev pub AuditsTexts : Type 0
  AuditsTexts = SaysVerdict ⊎ ((result ≡ Err NoMemory) × Silent s out out')
