-- A feeder's work, and what it does with a row.
use Rattle.std.specs.Prelude.{◌≡◌, ℕ, ◌+◌, true, false, [], ◌∷◌, ◌++◌, None}
use Rattle.cube_view.specs.Points.{Point}
use Rattle.cube_view.specs.declared.schema.Schema.{Schema}
use Rattle.feed_queue.specs.Ends.{FeedState, feed_state}
use Rattle.feed_reader.specs.RowCounts.{having_kept}
use Rattle.feed_reader.specs.declared.job.FeedJob.{FeedJob}
use Rattle.feed_reader.specs.declared.row.Row.{Row}
use Rattle.feed_reader.specs.declared.row.Row.TheVariants as row
use Rattle.outer_io.specs.Progress.{IsGoing}
use Rattle.crew_feeder.specs.declared.work.FeedWork.{FeedWork}

-- the work of a job whose feeder has this end, before its run
abbrev pub new_work : {I : Type 0} → FeedJob I → FeedState → FeedWork I
new_work job end = record { cutter = job.cutter; header = job.header; end = end; blank = 0; refused = 0; first = []; fault = None }

-- A work that may be run under the schema
pub record IsReady {I : Type 0} (schema : Schema) (work : FeedWork I) : Type 0 where
  -- its cutter gives lines
  pub going : IsGoing work.cutter
  -- its header was read with the schema
  pub header : work.header.schema ≡ schema
  -- its lane is of the schema
  pub lane : work.end.schema ≡ schema
  -- its end has sent nothing
  pub unsent : (work.end.points ≡ []) × (work.end.ended ≡ false)
  -- it has counted nothing and met no fault
  pub unrun : (work.blank ≡ 0) × (work.refused ≡ 0) × (work.first ≡ []) × (work.fault ≡ None)

-- the end once it has sent an entry of the point
abbrev pub having_fed : FeedState → Point → FeedState
having_fed end p = feed_state end.lane end.schema end.feeder (end.points ++ p ∷ []) end.ended

-- the end once it has sent its End
abbrev pub having_ended : FeedState → FeedState
having_ended end = feed_state end.lane end.schema end.feeder end.points true

-- the work once it has taken a row, whose line has this number
abbrev pub having_taken_row : {I : Type 0} → FeedWork I → ℕ → Row → FeedWork I
having_taken_row work line row.Blank = record work { blank = work.blank + 1 }
having_taken_row work line (row.Point p) = record work { end = having_fed work.end p }
having_taken_row work line (row.Refused f) = record work { refused = work.refused + 1; first = having_kept work.first (record { line = line; fault = f }) }
