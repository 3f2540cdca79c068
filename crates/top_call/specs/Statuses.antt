-- The statuses of a run.
use Rattle.std.specs.Prelude.{ℕ, Result, Ok, Err}
use Rattle.top_call.specs.declared.status.Status.{Status}
use Rattle.top_call.specs.declared.status.Status.TheVariants.{Done, Usage, PlanRefused, NoMemory, ReadFault, WriteFault, FeedRefused, Differs, ImageRefused}
use Rattle.image_run.specs.declared.end.ImageEnd.{ImageEnd}
use Rattle.image_run.specs.declared.end.ImageEnd.TheVariants as image
use Rattle.run_files.specs.declared.stop.Stop.{Stop}
use Rattle.run_files.specs.declared.stop.Stop.TheVariants as stop

-- the exit code
abbrev pub code_of : Status → ℕ
code_of Done = 0
code_of Usage = 2
code_of PlanRefused = 3
code_of NoMemory = 4
code_of ReadFault = 5
code_of WriteFault = 6
code_of FeedRefused = 7
code_of Differs = 9
code_of ImageRefused = 10

-- how a run ended that ends by this cause
abbrev pub status_of_stop : Stop → Status
status_of_stop stop.NoMemory = NoMemory
status_of_stop stop.PlanRefused = PlanRefused
status_of_stop stop.ReadFault = ReadFault
status_of_stop stop.WriteFault = WriteFault
status_of_stop stop.FeedRefused = FeedRefused

-- how a run ended, by the cause that ends it, if one does
abbrev pub status_of_end : Result (Unit {0}) Stop → Status
status_of_end (Ok done) = Done
status_of_end (Err stop) = status_of_stop stop

-- how a run of an image ended: done, or its image refused, or by the cause that ends it
abbrev pub status_of_image : Result ImageEnd Stop → Status
status_of_image (Ok image.Done) = Done
status_of_image (Ok image.Refused) = ImageRefused
status_of_image (Err stop) = status_of_stop stop
