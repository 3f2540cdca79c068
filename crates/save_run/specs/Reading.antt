-- What reading the feeds of a plan into a cube leaves of a place.
use Rattle.std.specs.Prelude.{◌≡◌, List, map, Result, Ok, Err}
use Rattle.cube_store.specs.declared.cube.Cube.{Cube}
use Rattle.cube_view.specs.declared.schema.Schema.{Schema}
use Rattle.feed_reader.specs.declared.counts.FeedCounts.{FeedCounts}
use Rattle.feed_reader.specs.declared.job.FeedJob.{FeedJob}
use Rattle.outer_io.specs.declared.cutter.CutFault.{CutFault}
use Rattle.run_files.specs.GivingBack.{TakesSources}
use Rattle.run_files.specs.Outside.{PlaceSeen, SourceSeen}
use Rattle.run_files.specs.Stops.{stop_of_cut}
use Rattle.run_files.specs.declared.stop.Stop.{Stop}
use Rattle.save_run.specs.Taking.{TakesFeeds}

-- how a run ends by what reading its feeds answered, if that ends it
abbrev pub taken_end : Result (Cube × List FeedCounts) CutFault → Result (Cube × List FeedCounts) Stop
taken_end (Ok taken) = Ok taken
taken_end (Err fault) = Err (stop_of_cut fault)

-- The feeds were read into a cube, and then given back to their place
pub record ReadsFeeds {P I : Type 0} (p : PlaceSeen P) (i : SourceSeen I) (schema : Schema) (before after : P) (feeds : List (FeedJob I)) (result : Result (Cube × List FeedCounts) Stop) : Type 0 where
  -- the feeds as reading left them, and what it answered
  pub read : List (FeedJob I)
  pub taken : Result (Cube × List FeedCounts) CutFault
  pub takes : TakesFeeds i.left i.faults schema feeds read taken
  pub back : TakesSources p before after (map (λ (feed : FeedJob I). i.faults feed.cutter.source) read)
  pub result_is : result ≡ taken_end taken
