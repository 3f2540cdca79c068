-- A run at one moment, as its ends show it.
use Rattle.std.specs.Prelude.{◌≡◌, ℕ, List, [], ◌∷◌, All, length}
use Rattle.builder_core.specs.Builder.{BuilderState}
use Rattle.cube_view.specs.declared.schema.Schema.{Schema}
use Rattle.feed_queue.specs.Ends.{FeedState, DrawState, new_feeds, draw_state}
use Rattle.feed_queue.specs.declared.item.Item.{Item}
use Rattle.mailbox.specs.Ends.{InEnd, OutEnd}
use Rattle.published_pair.specs.Rules.{Known}
use Rattle.world_core.specs.declared.world.Shot.{Shot}

-- What a session was shown and told
pub record SessionView : Type 0 where
  -- the list that its viewer was shown last
  pub shown : Known
  -- the longest list that its viewer has learned
  pub learned : Known
  -- the published lists that it was told of, in order
  pub told : List Known
  -- the end of its mailbox that puts
  pub put : InEnd
  -- and that which takes
  pub taken : OutEnd

-- A run at one moment
pub record RunView : Type 0 where
  -- the feeders' ends, that of feeder 1 first
  pub feeds : List FeedState
  -- the items that the lane's queue holds, the oldest first
  pub queue : List Item
  -- the end that draws them
  pub draws : DrawState
  -- the builder, whose published list is what the pair shows
  pub builder : BuilderState
  -- the sessions, in order
  pub sessions : List SessionView
  -- what their looks gave, in order
  pub shots : List Shot

-- how long the list is that was told last, or n where none was
abbrev pub last_length : ℕ → List Known → ℕ
last_length n [] = n
last_length n (list ∷ told) = last_length (length list.points) told

-- how many points the session has seen
abbrev pub seen_by : SessionView → ℕ
seen_by session = length session.shown.points

-- how many points it was told of last
abbrev pub told_to : SessionView → ℕ
told_to session = last_length 0 session.told

-- A session that was shown and has learned this list alone, whose mailbox is new
pub record IsNewSession (list : Known) (session : SessionView) : Type 0 where
  -- the list
  pub shown : session.shown ≡ list
  pub learned : session.learned ≡ list
  -- it was told of nothing
  pub told : session.told ≡ []
  -- nothing was put into its mailbox, or taken out of it
  pub put : session.put.lengths ≡ []
  pub taken : session.taken.taken ≡ []

-- A run of so many feeders and sessions once its lane, pair and builder are opened
pub record IsOpened (schema : Schema) (feeders sessions : ℕ) (run : RunView) : Type 0 where
  -- the ends of a new lane
  pub feeds : run.feeds ≡ new_feeds run.draws.lane schema feeders
  pub draws : run.draws ≡ draw_state run.draws.lane schema feeders run.draws.room []
  -- nothing is queued
  pub queue : run.queue ≡ []
  -- the builder has published nothing
  pub journal : run.builder.journal ≡ []
  pub published : run.builder.published.points ≡ []
  -- each session is new
  pub each : (length run.sessions ≡ sessions) × All (IsNewSession run.builder.published) run.sessions
  -- and none has looked
  pub shots : run.shots ≡ []
