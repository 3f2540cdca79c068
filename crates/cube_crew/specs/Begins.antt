-- What a run begins with.
use Rattle.std.specs.Prelude.{◌≡◌, ℕ, ◌≤◌, [], All, length}
use Rattle.live_session.specs.Work.{HadNoTurn}
use Rattle.cube_view.specs.Bag.{Counts}
use Rattle.cube_view.specs.declared.schema.Schema.{Schema}
use Rattle.cube_view.specs.declared.spot.Spot.{Spot}
use Rattle.feed_reader.specs.declared.job.FeedJob.{FeedJob}
use Rattle.outer_io.specs.Progress.{IsGoing}
use Rattle.cube_crew.specs.declared.jobs.Jobs.{Jobs}

-- two empty views of one schema
abbrev pub AreEmptyViews : {V : Type 0} → (V → Spot → ℕ) → (V → ℕ) → (V → Schema) → V → V → Type 0
AreEmptyViews weight_at seen schema_of first again = Counts (weight_at first) (seen first) [] × Counts (weight_at again) (seen again) [] × (schema_of again ≡ schema_of first)

-- Jobs that may run under the schema
pub record MayRun {I O : Type 0} (schema : Schema) (jobs : Jobs I O) : Type 0 where
  -- each header was read with the schema
  pub headers : All (λ (job : FeedJob I). job.header.schema ≡ schema) jobs.feeds
  -- each feed's cutter gives lines
  pub going : All (λ (job : FeedJob I). IsGoing job.cutter) jobs.feeds
  -- there are 1 to 8 feeds
  pub feeds : (1 ≤ length jobs.feeds) × (length jobs.feeds ≤ 8)
  -- and at most 8 asks and 8 finals
  pub sessions : (length jobs.asks ≤ 8) × (length jobs.finals ≤ 8)
  -- no ask has had a turn
  pub asks : All HadNoTurn jobs.asks
  -- and no final
  pub finals : All HadNoTurn jobs.finals
