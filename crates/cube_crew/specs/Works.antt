-- The works of a run, and what they give back.
use Rattle.std.specs.Prelude.{◌≡◌, List, [], ◌∷◌, length, Some, None, Ok}
use Rattle.crew_feeder.specs.Taking.{new_work}
use Rattle.crew_feeder.specs.declared.done.FeedDone.{FeedDone}
use Rattle.crew_feeder.specs.declared.work.FeedWork.{FeedWork}
use Rattle.live_session.specs.Work.{WorkState}
use Rattle.cube_view.specs.declared.schema.Schema.{Schema}
use Rattle.feed_queue.specs.Ends.{FeedState}
use Rattle.feed_reader.specs.declared.job.FeedJob.{FeedJob}
use Rattle.live_session.specs.State.{SessionState}
use Rattle.mailbox.specs.Ends.{OutEnd}
use Rattle.published_pair.specs.Rules.{Known}
use Rattle.world_core.specs.PairFact.{IsPrefix}

-- the works of feeders with these jobs and ends, before they run
abbrev pub works_of : {I : Type 0} → List (FeedJob I) → List FeedState → List (FeedWork I)
works_of [] ends = []
works_of (job ∷ jobs) [] = []
works_of (job ∷ jobs) (end ∷ ends) = new_work job end ∷ works_of jobs ends

-- what a feeder's work gives back
abbrev pub fed_of : {I : Type 0} → FeedWork I → FeedDone I
fed_of work = record { source = work.cutter.source; counts = record { accepted = length work.end.points; blank = work.blank; refused = work.refused; fault = work.fault; first = work.first } }

-- what is left of its end
abbrev pub end_of : {I : Type 0} → FeedWork I → FeedState
end_of work = work.end

-- a session's work before it runs, whose viewer is of that schema and was shown this list alone
abbrev pub new_session_work : {I O : Type 0} → Schema → Known → SessionState I O → OutEnd → WorkState I O
new_session_work schema front session mail = record { session = session; schema = schema; shown = front; learned = front; last = None; mail = mail; end = Ok tt }

-- the works of sessions with these mailboxes
abbrev pub session_works_of : {I O : Type 0} → Schema → Known → List (SessionState I O) → List OutEnd → List (WorkState I O)
session_works_of schema front [] mails = []
session_works_of schema front (session ∷ sessions) [] = []
session_works_of schema front (session ∷ sessions) (mail ∷ mails) = new_session_work schema front session mail ∷ session_works_of schema front sessions mails

-- A session's work once its viewer has learned the ended list
pub record HasLearned {I O : Type 0} (whole : Known) (before after : WorkState I O) : Type 0 where
  -- the session, its mailbox and how its run ended are as they were
  pub same : (after.session ≡ before.session) × (after.mail ≡ before.mail) × (after.end ≡ before.end)
  -- what it was shown too
  pub shown : (after.shown ≡ before.shown) × (after.schema ≡ before.schema)
  -- it has learned the list
  pub learned : (after.learned.points ≡ whole.points) × (after.last ≡ Some whole)
  -- which goes on from what it had learned
  pub grown : IsPrefix before.learned.points whole.points
