-- What a large run begins with: two feeds and two sessions.
use Rattle.std.specs.Prelude.{◌≡◌, ℕ, ◌≤◌, false, List, [], ◌∷◌, ◌++◌, map, None, IsSomeAnd}
use Rattle.cube_crew.specs.declared.jobs.Jobs.{Jobs}
use Rattle.feed_maker.specs.GeneratedFeed.{generated_feed}
use Rattle.feed_reader.specs.Feeds.{rows}
use Rattle.feed_reader.specs.Rows.{row_of_line}
use Rattle.feed_reader.specs.declared.job.FeedJob.{FeedJob}
use Rattle.live_session.specs.State.{SessionState, new_session}
use Rattle.outer_io.specs.Cutting.{input_size, lines_left}
use Rattle.outer_io.specs.Lines.{input_limit}
use Rattle.outer_io.specs.Memory.{StillOutput, new_still_output}
use Rattle.outer_io.specs.Progress.{IsGoing}
use Rattle.big_run.specs.BuiltIn.{ask_script, big_schema, final_script}
use Rattle.big_run.specs.Sources.{left_in}
use Rattle.big_run.specs.declared.source.RunSource.{RunSource}
use Rattle.big_run.specs.declared.source.RunSource.TheVariants.{Held}

-- A job whose cutter has given the first line of a generated feed of so many rows from a state
pub record IsFeed (state count : ℕ) (job : FeedJob RunSource) : Type 0 where
  -- its header was read with the schema
  pub schema : job.header.schema ≡ big_schema
  -- its cutter gives lines
  pub going : IsGoing job.cutter
  -- under the header the lines that are left are the feed's rows
  pub rows : IsSomeAnd (lines_left left_in job.cutter) (λ lines. map (row_of_line big_schema job.header.places) lines ≡ rows big_schema (generated_feed state count))
  -- and the feed is within the limit of an input
  pub size : IsSomeAnd (input_size left_in job.cutter) (λ size. size ≤ input_limit)

-- how many bytes of a script are given at a time
abbrev pub script_piece : ℕ
script_piece = 4096

-- a session over a script that has answered nothing
abbrev pub script_session : List ℕ → SessionState RunSource StillOutput
script_session script = new_session (record { source = Held (record { left = script; piece = script_piece }); held = []; taken = 0; given = 0; fault = None; ended = false }) (new_still_output [])

-- The jobs of the two feeds of so many rows
pub record AreFeeds (count : ℕ) (jobs : List (FeedJob RunSource)) : Type 0 where
  -- that of the state 1, and then that of the state 2
  pub first : FeedJob RunSource
  pub second : FeedJob RunSource
  pub both : jobs ≡ first ∷ second ∷ []
  pub first_is : IsFeed 1 count first
  pub second_is : IsFeed 2 count second

-- the job of a feed was added at the end
abbrev pub AddsFeed : ℕ → ℕ → List (FeedJob RunSource) → List (FeedJob RunSource) → Type 0
AddsFeed state count before after = (job : FeedJob RunSource) × IsFeed state count job × (after ≡ before ++ job ∷ [])

-- The jobs of a large run with feeds of so many rows
pub record HasJobs (count : ℕ) (jobs : Jobs RunSource StillOutput) : Type 0 where
  -- its feeds
  pub feeds : AreFeeds count jobs.feeds
  -- the session beside them, and the one after them
  pub asks : jobs.asks ≡ script_session ask_script ∷ []
  pub finals : jobs.finals ≡ script_session final_script ∷ []
