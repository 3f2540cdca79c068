-- How the sessions of a run end.
use Rattle.std.specs.Prelude.{◌≡◌, ◌≢◌, ◌+◌, Bool, true, false, List, All, length, map, Some}
use Rattle.std.specs.List.{AllZip}
use Rattle.builder_core.specs.Endings.{EachEnded}
use Rattle.builder_core.specs.Work.{DrawsFor, BuilderWorkState as Building}
use Rattle.crew_feeder.specs.declared.work.FeedWork.{FeedWork}
use Rattle.live_session.specs.Leaves.{LeavesSession}
use Rattle.live_session.specs.Work.{HadNoTurn, WorkState, done_of, has_starved}
use Rattle.live_session.specs.declared.done.SessionDone.{SessionDone}
use Rattle.cube_crew.specs.Starving.{FoundMemory}
use Rattle.cube_crew.specs.Works.{HasLearned, end_of, fed_of}
use Rattle.cube_crew.specs.declared.jobs.Crewed.{Crewed}
use Rattle.cube_view.specs.Points.{Point}
use Rattle.cube_view.specs.declared.stat.Stat.{Stat}
use Rattle.feed_queue.specs.Ends.{AreInTurn, sent_lists}
use Rattle.feed_queue.specs.Items.{entries_in}
use Rattle.live_session.specs.State.{SessionEnds}
use Rattle.outer_io.specs.declared.cutter.CutFault.TheVariants as cut
use Rattle.published_pair.specs.Pair.{Fresh}
use Rattle.published_pair.specs.Rules.{Known}
use Rattle.world_core.specs.Interleaving.{IsInterleaving, entry_points, list_of}
use Rattle.world_core.specs.PairFact.{IsPrefix}

-- An ask that ran before, whose viewer was closed over the ended list
pub record EndsAsk {I O : Type 0} (whole : Known) (work : WorkState I O) (done : SessionDone I O) : Type 0 where
  -- it gives back what it had
  pub gives : done ≡ done_of work
  -- what it was shown is a prefix of the ended list
  pub shown : IsPrefix work.shown.points whole.points
  -- and what it was told
  pub told : IsPrefix work.learned.points whole.points

-- A final that runs once its viewer has learned the ended list
pub record EndsFinal {I O : Type 0} (ends : SessionEnds I O) (is_stat : Stat → Type 0) (whole : Known) (starved : Bool) (work : WorkState I O) (done : SessionDone I O) : Type 0 where
  -- the work once it has learned that
  pub taught : WorkState I O
  -- and once it has run
  pub after : WorkState I O
  -- it learned the list
  pub learned : HasLearned whole work taught
  -- and ran
  pub ran : LeavesSession ends is_stat taught after
  -- it gives back what it has then
  pub gives : done ≡ done_of after
  -- where nothing lacked memory, it found memory for each reply
  pub found : starved ≡ false → has_starved after ≡ false

-- The works of a run once feeders, builder and asks have run, of this pair and lane
pub record IsRun {I O : Type 0} (works : List (FeedWork I)) (building : Building) (asks finals : List (WorkState I O)) : Type 0 where
  -- each feeder has sent its End
  pub ended : All (λ (work : FeedWork I). work.end.ended ≡ true) works
  -- into the lane that the builder's end draws from
  pub lane : All (λ (work : FeedWork I). work.end.lane ≡ building.draws.lane) works
  -- they are all its feeders, in order
  pub turn : AreInTurn (map end_of works) building.draws.feeders
  -- the End of each was drawn
  pub drawn : EachEnded building.draws.feeders building.draws.drawn
  -- the builder has taken all that was drawn
  pub draws : DrawsFor building.draws building.builder
  -- the viewers of all sessions are of its pair
  pub pair : All (λ (work : WorkState I O). work.shown.book ≡ building.builder.published.book) asks × All (λ (work : WorkState I O). work.shown.book ≡ building.builder.published.book) finals
  -- there is one for each
  pub viewers : building.builder.viewers ≡ length asks + length finals
  -- and no final has had a turn
  pub no_turn : All (λ (work : WorkState I O). HadNoTurn work.session) finals

-- all that the work's viewer was shown and told is the first of these points
abbrev pub IsWithin : {I O : Type 0} → List Point → WorkState I O → Type 0
IsWithin points work = Fresh work.shown.points work.learned.points points

-- What the end of a run makes of its works
pub record EndsRun {I O : Type 0} (ends : SessionEnds I O) (is_stat : Stat → Type 0) (works : List (FeedWork I)) (building : Building) (asks finals : List (WorkState I O)) (c : Crewed I O) : Type 0 where
  -- what each feeder's work gives back
  pub feeds : c.feeds ≡ map fed_of works
  -- what was drawn is an interleaving of what they sent
  pub drawn : (c.drawn ≡ entries_in building.draws.drawn) × IsInterleaving building.draws.feeders (list_of (sent_lists (map end_of works))) c.drawn
  -- the journal is a prefix of it, and all of it unless the builder is spent
  pub journal : IsPrefix c.journal c.drawn × (building.builder.spent ≡ false → c.journal ≡ c.drawn)
  -- the mailboxes are as the builder left them
  pub mails : c.mails ≡ building.mails
  -- where the pair ended, every viewer was closed over the journal's points, and the finals ran over them
  pub closed : c.closed ≡ true → (whole : Known) × (whole.points ≡ entry_points c.journal) × AllZip (EndsAsk whole) asks c.asks × AllZip (EndsFinal ends is_stat whole c.starved) finals c.finals
  -- and else the sessions are as they were
  pub unclosed : c.closed ≡ false → (c.asks ≡ map done_of asks) × (c.finals ≡ map done_of finals)
  -- and all that the asks' viewers were shown and told is the first of what was drawn
  pub within : c.closed ≡ false → All (IsWithin (entry_points c.drawn)) asks
  -- where nothing lacked memory, the pair ended and the builder is not spent
  pub found : c.starved ≡ false → (c.closed ≡ true) × (building.builder.spent ≡ false)
  -- and each feeder and each ask found memory
  pub fed : c.starved ≡ false → All (λ (work : FeedWork I). work.fault ≢ Some cut.NoMemory) works × All FoundMemory asks
