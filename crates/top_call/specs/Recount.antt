-- The form `recount PLAN JOURNAL SCRIPT REPLIES`: one session's transcript is checked against the journal.
use Rattle.std.specs.Prelude.{◌≡◌, Result, Ok, Err}
use Rattle.recount.specs.Ends.{RecountEnds}
use Rattle.recount.specs.Names.{AuditNames}
use Rattle.recount.specs.declared.audit.Audit.{Audit}
use Rattle.recount.specs.declared.audit.Audit.TheVariants as audit
use Rattle.run_files.specs.Outside.{PlaceSeen, SinkSeen}
use Rattle.run_files.specs.declared.stop.Stop.{Stop}
use Rattle.top_call.specs.Statuses.{status_of_stop}
use Rattle.top_call.specs.declared.status.Status.{Status}
use Rattle.top_call.specs.declared.status.Status.TheVariants.{Done, Differs}

-- the status of an audit
abbrev pub status_of_audit : Result Audit Stop → Status
status_of_audit (Ok audit.Agrees) = Done
status_of_audit (Ok audit.Differs) = Differs
status_of_audit (Err stop) = status_of_stop stop

-- How a run of this form ends: as the audit of the files does, whose end the status is
pub record AuditEnds {P O : Type 0} (p : PlaceSeen P) (s : SinkSeen O) (place place' : P) (out out' : O) (status : Status) (names : AuditNames) : Type 0 where
  -- how the audit ended
  pub end : Result Audit Stop
  pub status_is : status ≡ status_of_audit end
  -- and what it left
  pub ends : RecountEnds p s place place' out out' names end
