-- Who found no memory.
use Rattle.std.specs.Prelude.{◌≡◌, ◌≢◌, false, Some}
use Rattle.crew_feeder.specs.declared.work.FeedWork.{FeedWork}
use Rattle.live_session.specs.Work.{WorkState, has_starved}
use Rattle.outer_io.specs.declared.cutter.CutFault.TheVariants as cut

-- the feeder did not end for want of memory
abbrev pub FoundRoom : {I : Type 0} → FeedWork I → Type 0
FoundRoom work = work.fault ≢ Some cut.NoMemory

-- the session found memory for each reply and did not end for want of it
abbrev pub FoundMemory : {I O : Type 0} → WorkState I O → Type 0
FoundMemory work = has_starved work ≡ false
