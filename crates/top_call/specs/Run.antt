-- The form `run PLAN`: the plan's feeds are loaded by threads while its scripts are answered.
use Rattle.std.specs.Prelude.{◌≡◌, ℕ, List, Result}
use Rattle.top_call.specs.Statuses.{status_of_end}
use Rattle.top_call.specs.declared.status.Status.{Status}
use Rattle.plan_run.specs.Ends.{RunEnds}
use Rattle.run_files.specs.Outside.{at, PlaceSeen, SinkSeen}
use Rattle.run_files.specs.declared.stop.Stop.{Stop}

-- How a run of this form ends: as a run of the plan does, whose end the status is
pub record PlanRunEnds {P O : Type 0} (p : PlaceSeen P) (s : SinkSeen O) (place place' : P) (out out' : O) (status : Status) (plan : List ℕ) : Type 0 where
  -- how the run of the plan ended
  pub end : Result (Unit {0}) Stop
  pub status_is : status ≡ status_of_end end
  -- and what it left
  pub ends : RunEnds p s (at place out) (at place' out') plan end
