-- What is reported of what feeders and sessions leave.
use Rattle.std.specs.Prelude.{◌≡◌, ℕ, Bool, List, Result, IfOk}
use Rattle.live_session.specs.declared.done.SessionDone.{SessionDone}
use Rattle.cube_schema.specs.declared.plan.Plan.{Plan}
use Rattle.run_files.specs.Reports.{counts_text}
use Rattle.run_files.specs.declared.counts.ScriptCounts.{ScriptCounts}
use Rattle.plan_run.specs.declared.counts.RunCounts.{RunCounts}

-- this is the report of what was counted, where it was
abbrev pub IsReportOf : {E : Type 0} → Plan → Bool → ℕ → Result RunCounts E → List ℕ → Type 0
IsReportOf plan closed entries counts text = IfOk counts (λ c. counts_text plan c.feeds.items c.asks.items c.finals.items closed entries ≡ text)

-- what is reported of a script
abbrev pub script_counts : {I O : Type 0} → SessionDone I O → ScriptCounts
script_counts session = record { replies = session.replies; seen = session.seen; fault = session.fault }
