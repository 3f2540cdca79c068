-- The form `big N`: two generated feeds of so many rows, and a summary.
use Rattle.std.specs.Prelude.{◌≡◌, ℕ, Result}
use Rattle.big_run.specs.Ends.{BigEnds}
use Rattle.top_call.specs.Statuses.{status_of_end}
use Rattle.top_call.specs.declared.status.Status.{Status}
use Rattle.run_files.specs.Outside.{SinkSeen}
use Rattle.run_files.specs.declared.stop.Stop.{Stop}

-- How a run of this form ends
pub record BigRunEnds {O : Type 0} (s : SinkSeen O) (out out' : O) (status : Status) (rows : ℕ) : Type 0 where
  -- the text of that run was put, or how that failed, which the status is
  pub end : Result (Unit {0}) Stop
  pub status_is : status ≡ status_of_end end
  pub ends : BigEnds s out out' rows end
