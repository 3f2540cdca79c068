-- When a world of the loading machine stands where a run does.
use Rattle.std.specs.Prelude.{◌≡◌, ℕ, ◌≤◌, List, [], ◌++◌, All, length, map}
use Rattle.cube_view.specs.Points.{Point}
use Rattle.feed_queue.specs.Ends.{sent_lists}
use Rattle.feed_queue.specs.Items.{entries_in}
use Rattle.published_pair.specs.declared.told.Told.{Told}
use Rattle.published_pair.specs.Rules.{Known}
use Rattle.world_core.specs.Interleaving.{numbered, entries_of, entry_points, list_of}
use Rattle.world_core.specs.declared.entry.Entry.{Entry}
use Rattle.world_core.specs.PairFact.{IsPrefix}
use Rattle.world_core.specs.declared.world.World.{World}
use Rattle.run_law.specs.Views.{RunView, SessionView, seen_by, told_to}

-- what feeder f has sent
abbrev pub sent_of : RunView → ℕ → List Point
sent_of run f = list_of (sent_lists run.feeds) f

-- Each of these lists, one for each feeder, is what the feeder has sent and then perhaps more
pub record GoOnFrom (run : RunView) (lists : List (List Point)) : Type 0 where
  pub count : length lists ≡ length run.feeds
  pub each : (f : ℕ) → 1 ≤ f → f ≤ length run.feeds → IsPrefix (sent_of run f) (list_of lists f)

-- What a session knows is at most what it was told, and that is at most what is published
pub record HasHeard (published : Known) (session : SessionView) : Type 0 where
  -- it was told last of no more than is published
  pub within : told_to session ≤ length published.points
  -- no more was put into its mailbox
  pub put : All (λ (n : ℕ). n ≤ told_to session) session.put.lengths
  -- or taken out of it
  pub taken : All (λ (t : Told). length t.front.points ≤ told_to session) session.taken.taken
  -- and its viewer has learned no more
  pub learned : length session.learned.points ≤ told_to session

-- the entries drawn and then those queued
abbrev pub entries_sent : RunView → List Entry
entries_sent run = entries_in run.draws.drawn ++ entries_in run.queue

-- What every run keeps
pub record KeepsRun (run : RunView) : Type 0 where
  -- the entries drawn and then those queued are, feeder by feeder, those sent, numbered from 0
  pub lane : (f : ℕ) → 1 ≤ f → f ≤ length run.feeds → entries_of f (entries_sent run) ≡ numbered f 0 (sent_of run f)
  -- what the pair shows is the journal, point for point
  pub published : run.builder.published.points ≡ entry_points run.builder.journal
  -- what is learned is at most what was told
  pub heard : All (HasHeard run.builder.published) run.sessions

-- A world of the machine over these lists stands where the run does
pub record StandsWith (lists : List (List Point)) (run : RunView) (w : World) : Type 0 where
  -- each list is what its feeder has sent, and then its rest
  pub count : length w.rest ≡ length run.feeds
  pub rest : (f : ℕ) → 1 ≤ f → f ≤ length run.feeds → list_of lists f ≡ sent_of run f ++ list_of w.rest f
  -- the queue's entries are queued
  pub queue : w.queue ≡ entries_in run.queue
  -- what is drawn and not published is pending, also where the builder is spent
  pub drawn : w.journal ++ w.pending ≡ entries_in run.draws.drawn
  -- the journals are one
  pub journal : w.journal ≡ run.builder.journal
  -- each session has seen and was told of as many points
  pub seen : w.seen ≡ map seen_by run.sessions
  pub told : w.told ≡ map told_to run.sessions
  -- the looks gave the same
  pub shots : w.shots ≡ run.shots
  -- and no event was skipped
  pub skipped : w.skipped ≡ []
  -- the run keeps what every run does
  pub keeps : KeepsRun run
