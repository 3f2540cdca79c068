-- How an audit of a session's transcript ends, from files.
use Rattle.std.specs.Prelude.{◌≡◌, ◌≢◌, ◌⊎◌, ℕ, ◌≤◌, List, [], ◌∷◌, length, Some, Result, Err, IfOk, IsOk}
use Rattle.std.specs.Result.{result_err}
use Rattle.cube_schema.specs.Meaning.{plan_meaning}
use Rattle.cube_schema.specs.declared.fault.PlanFault.{PlanFault}
use Rattle.cube_schema.specs.declared.plan.Plan.{Plan}
use Rattle.outer_io.specs.Faults.{Rose}
use Rattle.outer_io.specs.Files.{Files, file_or_empty}
use Rattle.outer_io.specs.Told.{Told}
use Rattle.run_files.specs.Leaving.{FailsAtLast, LeavesPlace}
use Rattle.run_files.specs.Outside.{FailsToPut, file_of, PlaceSeen, Puts, Silent, SinkSeen}
use Rattle.run_files.specs.Planned.{HasNoPlan, IsPlanOf, RefusesPlan}
use Rattle.run_files.specs.Stops.{IsDoneOrLacks}
use Rattle.run_files.specs.declared.stop.Stop.{Stop}
use Rattle.run_files.specs.declared.stop.Stop.TheVariants.{PlanRefused, ReadFault, WriteFault, FeedRefused}
use Rattle.recount.specs.declared.verdict.Verdict.{Verdict}
use Rattle.recount.specs.Audits.{audit_of}
use Rattle.recount.specs.VerdictLines.{verdict_line}
use Rattle.recount.specs.Names.{AuditNames}
use Rattle.recount.specs.AuditTexts.{AreShort, IsOneLong}
use Rattle.recount.specs.Said.{HasVerdictUnder}
use Rattle.recount.specs.declared.audit.Audit.{Audit}

-- The verdict is the one that these bytes have as a plan, a journal, a script and replies
pub record IsVerdictOf (text journal script replies : List ℕ) (v : Verdict) : Type 0 where
  -- the first of them are a plan
  pub plan : Plan
  pub is_plan : IsPlanOf (Some text) plan
  -- the others are read whole
  pub short : AreShort journal script replies
  -- and the verdict is theirs under it
  pub verdict : HasVerdictUnder plan journal script replies v

-- a text is refused, or the audit ends as one without a plan does
abbrev pub HasNoTexts : Result Audit Stop → Type 0
HasNoTexts result = (result ≡ Err FeedRefused) ⊎ HasNoPlan (λ end. result ≡ Err end)

-- What an audit of the named files opened
pub record OpensAudit {P : Type 0} (p : PlaceSeen P) (place place' : P) (names : AuditNames) (result : Result Audit Stop) : Type 0 where
  -- the files are opened in order, all where the audit is done, and a read fault comes only where the count of reading
  -- rose
  pub leaves : LeavesPlace p place place' (names.plan ∷ names.journal ∷ names.script ∷ names.replies ∷ []) [] (result_err result)
  -- one that could not be read is the last that was opened
  pub first : result ≡ Err ReadFault → FailsAtLast p place leaves.opens
  -- where the plan is refused, or is none, no other file was
  pub refused_plan : result ≡ Err PlanRefused → length leaves.opens ≤ 1
  pub no_plan : Told (p.files place) (λ files. (fault : PlanFault) → plan_meaning (file_or_empty files names.plan) ≡ Err fault → length leaves.opens ≤ 1)

-- what an audit of the named files leaves of a place and a sink
module _ {P O : Type 0} (p : PlaceSeen P) (s : SinkSeen O) (place place' : P) (out out' : O) (names : AuditNames) where
  -- the claim holds of the bytes of the four files, where the place tells its files
  abbrev pub OfFiles : (List ℕ → List ℕ → List ℕ → List ℕ → Type 0) → Type 0
  OfFiles Claim = (files : Files) → p.files place ≡ Some files → Claim (file_or_empty files names.plan) (file_or_empty files names.journal) (file_or_empty files names.script) (file_or_empty files names.replies)

  -- The line of a verdict was put, and this was answered
  pub record SaysAudit (audit : Audit) : Type 0 where
    -- it is that of the files
    pub verdict : Verdict
    pub of_files : OfFiles (λ t j q r. IsVerdictOf t j q r verdict)
    -- its line was put, and nothing else
    pub puts : Puts s out out' (verdict_line verdict)
    -- and the answer says whether they agree
    pub audit_is : audit ≡ audit_of verdict

  -- The put of the line of a verdict failed
  pub record FailsToSay : Type 0 where
    -- it is that of the files
    pub verdict : Verdict
    pub of_files : OfFiles (λ t j q r. IsVerdictOf t j q r verdict)
    -- a part of its line was put, and the count rose
    pub part : FailsToPut s out out' (verdict_line verdict)

  -- How an audit of the named files ends
  pub record RecountEnds (result : Result Audit Stop) : Type 0 where
    -- with Ok the line of the verdict was put
    pub done : IfOk result SaysAudit
    -- a write fault comes only where that put failed
    pub unsaid : result ≡ Err WriteFault → FailsToSay
    -- a plan is refused only where the bytes are none, which is said ..
    pub refused_plan : result ≡ Err PlanRefused → RefusesPlan s out out' (file_of (p.files place) names.plan)
    -- .. and where they are none it is, unless it is not read
    pub no_plan : OfFiles (λ t j q r. (fault : PlanFault) → plan_meaning t ≡ Err fault → HasNoPlan (λ end. result ≡ Err end))
    -- a text is refused only where one has more than 2^30 bytes ..
    pub refused : result ≡ Err FeedRefused → OfFiles (λ t j q r. IsOneLong j q r)
    -- .. and where one has, it is, or something before it ends the audit
    pub no_texts : OfFiles (λ t j q r. IsOneLong j q r → HasNoTexts result)
    -- with every other end nothing is put
    pub silent : (stop : Stop) → result ≡ Err stop → stop ≢ PlanRefused → stop ≢ WriteFault → Silent s out out'
    -- with a plan, texts that are short and no count risen the audit is done, or memory was wanted
    pub complete : OfFiles (λ t j q r. IsOk (plan_meaning t) → AreShort j q r → ¬ Rose (p.read_faults place) (p.read_faults place') → ¬ Rose (s.faults out) (s.faults out') → IsDoneOrLacks result)
    -- the files are opened in order, up to the first trouble
    pub opens : OpensAudit p place place' names result
    -- nothing is created or written
    pub created : p.created place' ≡ p.created place
    pub write_faults : p.write_faults place' ≡ p.write_faults place
    pub files : p.files place' ≡ p.files place
