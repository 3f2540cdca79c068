-- The form `load PLAN IMAGE SCRIPT`: a script is answered over the cube of an image.
use Rattle.std.specs.Prelude.{◌≡◌, Result}
use Rattle.top_call.specs.Statuses.{status_of_image}
use Rattle.top_call.specs.declared.status.Status.{Status}
use Rattle.image_run.specs.Ends.{LoadEnds}
use Rattle.image_run.specs.Names.{ImageNames}
use Rattle.image_run.specs.declared.end.ImageEnd.{ImageEnd}
use Rattle.run_files.specs.Outside.{at, PlaceSeen, SinkSeen}
use Rattle.run_files.specs.declared.stop.Stop.{Stop}

-- How a run of this form ends: as the load of the image does, whose end the status is
pub record ImageLoadEnds {P O : Type 0} (p : PlaceSeen P) (s : SinkSeen O) (place place' : P) (out out' : O) (status : Status) (names : ImageNames) : Type 0 where
  -- how the load ended
  pub end : Result ImageEnd Stop
  pub status_is : status ≡ status_of_image end
  -- and what it left
  pub ends : LoadEnds p s (at place out) (at place' out') names end
