-- What a run leaves.
use Rattle.std.specs.Prelude.{◌≡◌, ◌≢◌, ℕ, ◌+◌, Bool, true, false, if◌then◌else◌, List, [], ◌∷◌, All, length, map, Option, Some, Result, Err, OnOk, IsErrOf, ⊤}
use Rattle.std.specs.List.{AllZip}
use Rattle.builder_core.specs.Telling.{told_lengths}
use Rattle.crew_feeder.specs.Leaving.{GivesUntil}
use Rattle.crew_feeder.specs.declared.done.FeedDone.{FeedDone}
use Rattle.live_session.specs.Work.{ending_fault, last_number}
use Rattle.live_session.specs.declared.done.SessionDone.{SessionDone}
use Rattle.cube_view.specs.Points.{Point}
use Rattle.cube_view.specs.declared.schema.Schema.{Schema}
use Rattle.cube_view.specs.declared.stat.Stat.{Stat}
use Rattle.feed_reader.specs.Feeds.{points_in}
use Rattle.feed_reader.specs.RowCounts.{count_blank, count_refused, first_refusals}
use Rattle.feed_reader.specs.Rows.{row_of_line}
use Rattle.feed_reader.specs.declared.job.FeedJob.{FeedJob}
use Rattle.feed_reader.specs.declared.row.Row.{Row}
use Rattle.live_session.specs.Refusing.{TellsRefused}
use Rattle.live_session.specs.SoFar.{AnswersAll, HasDone, moment}
use Rattle.live_session.specs.State.{SessionEnds, SessionState}
use Rattle.mailbox.specs.Ends.{InEnd}
use Rattle.outer_io.specs.Cutting.{Cutter}
use Rattle.outer_io.specs.Faults.{HasCause}
use Rattle.outer_io.specs.Lines.{Line}
use Rattle.outer_io.specs.Progress.{IsTooLarge}
use Rattle.outer_io.specs.declared.cutter.CutFault.TheVariants as cut
use Rattle.session_core.specs.declared.fault.SessionFault.{SessionFault}
use Rattle.session_core.specs.declared.fault.SessionFault.TheVariants as fault
use Rattle.world_core.specs.Interleaving.{IsInterleaving, entry_points, list_of}
use Rattle.world_core.specs.PairFact.{IsPrefix}
use Rattle.world_core.specs.declared.entry.Entry.{Entry}
use Rattle.cube_crew.specs.declared.jobs.Crewed.{Crewed}
use Rattle.cube_crew.specs.declared.jobs.Jobs.{Jobs}

-- the rows of lines under the header of a job
abbrev pub feed_rows : {I : Type 0} → FeedJob I → List Line → List Row
feed_rows job lines = map (row_of_line job.header.schema job.header.places) lines

-- What a feed of a run leaves, whose feeder has sent these points
pub record LeavesFeed {I : Type 0} (left : I → Option (List ℕ)) (faults : I → ℕ) (job : FeedJob I) (sent : List Point) (done : FeedDone I) : Type 0 where
  -- the lines that the cutter gave
  pub lines : List Line
  -- the cutter after them
  pub cutter : Cutter I
  -- it gave them until the fault, or until its end
  pub given : GivesUntil left faults job.cutter cutter lines done.counts.fault
  -- the source is as it left it
  pub source : done.source ≡ cutter.source
  -- the accepted points among their rows were sent
  pub accepted : (sent ≡ points_in (feed_rows job lines)) × (done.counts.accepted ≡ length sent)
  -- the blank and the refused rows were counted
  pub counts : (done.counts.blank ≡ count_blank (feed_rows job lines)) × (done.counts.refused ≡ count_refused (feed_rows job lines))
  -- and the first refusals kept, with the numbers of their lines
  pub first : done.counts.first ≡ first_refusals (job.cutter.given + 1) (feed_rows job lines)

module _ {I : Type 0} (left : I → Option (List ℕ)) (faults : I → ℕ) where
  -- each feed leaves that, in order
  abbrev pub FeedsLeave : List (FeedJob I) → List (List Point) → List (FeedDone I) → Type 0
  FeedsLeave [] [] [] = ⊤
  FeedsLeave (job ∷ jobs) (sent ∷ sents) (done ∷ dones) = LeavesFeed left faults job sent done × FeedsLeave jobs sents dones
  FeedsLeave jobs sents dones = ⊥

-- the points over which sessions answer: the journal's where the viewers were closed, and else the first of what was
-- drawn
abbrev pub answered_over : Bool → List Entry → List Entry → List Point
answered_over closed journal drawn = entry_points (if closed then journal else drawn)

-- How a run ended for its sessions
pub record Closing : Type 0 where
  -- the viewers were closed
  pub closed : Bool
  -- something lacked memory
  pub starved : Bool
  -- the points over which they answer
  pub points : List Point

-- the same of these
abbrev pub closing : Bool → Bool → List Point → Closing
closing closed starved points = record { closed = closed; starved = starved; points = points }

-- and of a run
abbrev pub closing_of : {I O : Type 0} → Crewed I O → Closing
closing_of c = closing c.closed c.starved (answered_over c.closed c.journal c.drawn)

-- What holds where nothing lacked memory
pub record FoundAll {I O : Type 0} (schema : Schema) (c : Crewed I O) : Type 0 where
  -- the journal is all that was drawn
  pub journal : c.journal ≡ c.drawn
  -- the viewers were closed
  pub closed : c.closed ≡ true
  -- each mailbox got the multiples of the batch up to the journal's length, and then that length
  pub told : All (λ (mail : InEnd). mail.lengths ≡ told_lengths schema.batch (length c.journal)) c.mails
  -- and no feed ended for want of memory
  pub feeds : All (λ (done : FeedDone I). done.counts.fault ≢ Some cut.NoMemory) c.feeds

-- over what contracts see of sources and sinks, a structure whose numbers meet the test, and a schema
module _ {I O : Type 0} (ends : SessionEnds I O) (is_stat : Stat → Type 0) (schema : Schema) where
  -- What a session of a run leaves, over these points
  pub record LeavesTranscript (final : Bool) (run : Closing) (before : SessionState I O) (done : SessionDone I O) : Type 0 where
    -- the session at its end
    pub after : SessionState I O
    -- how it ended
    pub end : Result (Unit {0}) SessionFault
    -- its parts are given back
    pub parts : (done.source ≡ after.source.source) × (done.sink ≡ after.sink)
    -- with its numbers and its fault
    pub numbers : (done.replies ≡ after.replies) × (done.seen ≡ last_number after.seens) × (done.fault ≡ ending_fault end)
    -- the points over which it answered: all of the list where the viewers were closed, and else the first of it
    pub points : List Point
    pub whole : run.closed ≡ true → points ≡ run.points
    pub within : IsPrefix points run.points
    -- where they were not closed a final had no turn
    pub unrun : run.closed ≡ false → final ≡ true → after ≡ before
    -- its replies, which the numbers count, are a transcript over them of the first of what its script asks; after
    -- `Write` with one reply more, of which the sink gained a part
    pub replied : HasDone ends schema is_stat final 0 before (moment (record { shown = points; told = points; takes = done.mail.takes }) after) end
    -- where the viewers were closed all is answered, unless a fault ended it
    pub all : run.closed ≡ true → OnOk end (AnswersAll ends.left schema before after)
    -- and with too much: then the script is over its limit
    pub too_much : IsErrOf end fault.TooMuch → AnswersAll ends.left schema before after × IsTooLarge ends.left before.source
    -- of a session whose cutter had given nothing, the script is not refused where the viewers were closed and no fault
    -- ended it
    pub taken : run.closed ≡ true → OnOk end (TellsRefused ends.left schema before.source false)
    -- and it is refused where there was too much
    pub refused : IsErrOf end fault.TooMuch → TellsRefused ends.left schema before.source true
    -- `Read` only where the source's count of faults rose, which else stands
    pub read : HasCause (ends.faults before.source.source) (ends.faults done.source) end fault.Read
    -- `Write` only where the sink's count rose, which else stands
    pub write : HasCause (ends.put_faults before.sink) (ends.put_faults done.sink) end fault.Write
    -- the sink keeps its name
    pub named : ends.name done.sink ≡ ends.name before.sink
    -- where nothing lacked memory, no reply is the line that says so, and it did not end for want of memory
    pub found : run.starved ≡ false → (after.lacked ≡ false) × (end ≢ Err fault.NoMemory)

  -- What a run leaves
  pub record IsCrewed (jobs : Jobs I O) (c : Crewed I O) : Type 0 where
    -- the points that each feeder sent
    pub sent : List (List Point)
    -- each feed sent and counted what its lines are, in order
    pub feeds : FeedsLeave ends.left ends.faults jobs.feeds sent c.feeds
    -- what was drawn is an interleaving of what was sent
    pub drawn : IsInterleaving (length jobs.feeds) (list_of sent) c.drawn
    -- the journal is a prefix of it
    pub journal : IsPrefix c.journal c.drawn
    -- each ask answered over the journal, or over the first of what was drawn
    pub asks : AllZip (LeavesTranscript false (closing_of c)) jobs.asks c.asks
    -- each final answered over all of the journal, or had no turn
    pub finals : AllZip (LeavesTranscript true (closing_of c)) jobs.finals c.finals
    -- the mailboxes that were put into are those that the asks took from
    pub mails : map (λ (mail : InEnd). mail.mailbox) c.mails ≡ map (λ (done : SessionDone I O). done.mail.mailbox) c.asks
    -- and where nothing lacked memory, all is there
    pub found : c.starved ≡ false → FoundAll schema c
