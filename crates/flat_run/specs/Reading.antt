-- What reading the feeds of a plan into one list of points answers, and leaves of a place.
use Rattle.std.specs.Prelude.{◌≡◌, ◌+◌, ◌≤◌, ℕ, List, ◌++◌, All, IsTrue, length, map, Option, Result, Ok, Err}
use Rattle.std.specs.List.{AllZip, flat_map}
use Rattle.cube_view.specs.Bag.{most_points}
use Rattle.cube_view.specs.Points.{Point}
use Rattle.cube_view.specs.Validity.{sound}
use Rattle.cube_view.specs.declared.schema.Schema.{Schema}
use Rattle.feed_reader.specs.Feeds.{points_in}
use Rattle.feed_reader.specs.declared.job.FeedJob.{FeedJob}
use Rattle.feed_reader.specs.declared.row.Row.{Row}
use Rattle.outer_io.specs.Lines.{input_limit}
use Rattle.outer_io.specs.declared.cutter.CutFault.{CutFault}
use Rattle.run_files.specs.GivingBack.{TakesSources}
use Rattle.run_files.specs.Outside.{PlaceSeen, SourceSeen}
use Rattle.run_files.specs.Stops.{stop_of_cut}
use Rattle.run_files.specs.declared.stop.Stop.{Stop}
use Rattle.save_run.specs.Taking.{AreQuiet, EndsBy, HasRows}

-- a view of the schema can take each of the points
abbrev pub AreSound : Schema → List Point → Type 0
AreSound schema points = All (λ p. IsTrue (sound schema p)) points

module _ {S : Type 0} (left : S → Option (List ℕ)) (faults : S → ℕ) (schema : Schema) where
  -- A feed was read to its end, and the points among its rows stand behind the others
  pub record PushesFeed (feed : FeedJob S) (before after : List Point) : Type 0 where
    -- the rows of the feed
    pub rows : List Row
    pub read : HasRows left faults feed rows
    -- the points among them
    pub points : after ≡ before ++ points_in rows
    pub are_sound : AreSound schema after
    pub few : length after ≤ length before + input_limit

  -- All feeds were read to their ends, and these are the points among their rows, in order
  pub record GivesAll (before after : List (FeedJob S)) (points : List Point) : Type 0 where
    -- the rows of each feed
    pub rows : List (List Row)
    pub read : AllZip (HasRows left faults) before rows
    -- the points among them
    pub points_are : points ≡ flat_map points_in rows
    pub are_sound : AreSound schema points
    pub few : length points ≤ most_points
    -- no source met a fault
    pub quiet : AreQuiet left faults after

  -- what reading the feeds answers: the points, or the fault of the first feed that met one
  abbrev pub GivesPoints : List (FeedJob S) → List (FeedJob S) → Result (List Point) CutFault → Type 0
  GivesPoints before after (Ok points) = GivesAll before after points
  GivesPoints before after (Err fault) = EndsBy left faults before after fault

module _ {I : Type 0} (i : SourceSeen I) where
  -- how many faults the source of each of these feeds met
  abbrev pub faults_met : List (FeedJob I) → List ℕ
  faults_met jobs = map (λ (job : FeedJob I). i.faults job.cutter.source) jobs

-- how a run ends by what reading its feeds answered, if that ends it
abbrev pub points_end : Result (List Point) CutFault → Result (List Point) Stop
points_end (Ok points) = Ok points
points_end (Err fault) = Err (stop_of_cut fault)

-- The feeds were read into a list of points, and then given back to their place
pub record ReadsPoints {P I : Type 0} (p : PlaceSeen P) (i : SourceSeen I) (schema : Schema) (before after : P) (feeds : List (FeedJob I)) (result : Result (List Point) Stop) : Type 0 where
  -- what reading them answered, and the feeds as it left them
  pub given : Result (List Point) CutFault
  pub read : List (FeedJob I)
  pub gives : GivesPoints i.left i.faults schema feeds read given
  pub result_is : result ≡ points_end given
  pub given_back : TakesSources p before after (faults_met i read)
