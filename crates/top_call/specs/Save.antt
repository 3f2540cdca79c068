-- The form `save PLAN IMAGE`: the cube of a plan's feeds is saved as its image.
use Rattle.std.specs.Prelude.{◌≡◌, Result}
use Rattle.top_call.specs.Statuses.{status_of_image}
use Rattle.top_call.specs.declared.status.Status.{Status}
use Rattle.image_run.specs.declared.end.ImageEnd.{ImageEnd}
use Rattle.run_files.specs.Outside.{at, PlaceSeen, SinkSeen}
use Rattle.run_files.specs.declared.stop.Stop.{Stop}
use Rattle.save_run.specs.Ends.{SaveEnds}
use Rattle.save_run.specs.Names.{SaveNames}

-- How a run of this form ends: as saving the cube of the feeds does, whose end the status is
pub record ImageSaveEnds {P O : Type 0} (p : PlaceSeen P) (s : SinkSeen O) (place place' : P) (out out' : O) (status : Status) (names : SaveNames) : Type 0 where
  -- how saving ended
  pub end : Result ImageEnd Stop
  pub status_is : status ≡ status_of_image end
  -- and what it left
  pub ends : SaveEnds p s (at place out) (at place' out') names end
