-- When a feed's job and a script's session are ready to run.
use Rattle.std.specs.Prelude.{◌≡◌, ℕ, List, ◌++◌, codes, Option, IsSomeAnd}
use Rattle.live_session.specs.Work.{HadNoTurn}
use Rattle.cube_view.specs.declared.schema.Schema.{Schema}
use Rattle.feed_reader.specs.Reading.{AcceptsRows}
use Rattle.feed_reader.specs.declared.job.FeedJob.{FeedJob}
use Rattle.live_session.specs.State.{SessionState}
use Rattle.outer_io.specs.Cutting.{lines_left}
use Rattle.outer_io.specs.Files.{Files}
use Rattle.outer_io.specs.Told.{Told}
use Rattle.run_files.specs.Headed.{IsHeaded}
use Rattle.run_files.specs.Outside.{file_of, SinkSeen}
use Rattle.run_files.specs.Scripted.{IsOutput, IsScript}

-- The job is that of a feed with these bytes, where they are told, of which the header alone was read
pub record IsJobOf {I : Type 0} (left : I → Option (List ℕ)) (faults : I → ℕ) (schema : Schema) (file : Option (List ℕ)) (job : FeedJob I) : Type 0 where
  -- its header is the first line
  pub headed : IsHeaded left faults schema file job
  -- its cutter gave that line alone, and its source met no fault
  pub given : job.cutter.given ≡ 1
  pub fresh : faults job.cutter.source ≡ 0
  -- and the feed's accepted records are the points among the rows of the lines that are left
  pub rows : Told file (λ feed. IsSomeAnd (lines_left left job.cutter) (AcceptsRows schema job.header.places feed))

-- The session is that of the script of this name
pub record IsSessionOf {I O : Type 0} (left : I → Option (List ℕ)) (faults : I → ℕ) (s : SinkSeen O) (files : Option Files) (name : List ℕ) (session : SessionState I O) : Type 0 where
  -- nothing of its script was read
  pub script : IsScript left faults (file_of files name) session.source
  -- its replies go to an empty sink of the script's output
  pub output : IsOutput s files (name ++ codes ".out") session.sink
  -- and it has had no turn
  pub no_turn : HadNoTurn session
