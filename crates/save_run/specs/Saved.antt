-- What a file has that the cube of a plan's feeds was saved to, and what is said of it.
use Rattle.std.specs.Prelude.{◌≡◌, ℕ, ◌<◌, false, List, All, Contains, length, map, Some}
use Rattle.std.specs.FinMap.{get}
use Rattle.std.specs.List.{flat_map}
use Rattle.cube_schema.specs.declared.plan.Plan.{Plan}
use Rattle.cube_view.specs.Points.{Point}
use Rattle.feed_reader.specs.Feeds.{accepted, is_feed_refused, rows}
use Rattle.feed_reader.specs.declared.counts.FeedCounts.{FeedCounts}
use Rattle.image_cube.specs.CubeImages.{HasLongCubeImage, IsCubeImage}
use Rattle.image_cube.specs.LeastImages.{IsLeastImage}
use Rattle.outer_io.specs.Files.{Files, file_or_empty}
use Rattle.outer_io.specs.Lines.{input_limit}
use Rattle.save_run.specs.Taking.{counts_at_end}

module _ (plan : Plan) (files : Files) where
  -- the records of the plan's feeds, joined in the plan's order
  abbrev pub accepted_records : List Point
  accepted_records = flat_map (λ name. accepted plan.schema (file_or_empty files name)) plan.feeds

  -- what is counted of all rows of each of them
  abbrev pub whole_counts : List FeedCounts
  whole_counts = map (λ name. counts_at_end (rows plan.schema (file_or_empty files name))) plan.feeds

  -- no feed of the plan is refused, by its header or its length
  abbrev pub AreTaken : Type 0
  AreTaken = All (λ name. is_feed_refused plan.schema (file_or_empty files name) ≡ false) plan.feeds

  -- one of them has more than 2^30 bytes
  abbrev pub HasLongFeed : Type 0
  HasLongFeed = (name : List ℕ) × Contains plan.feeds name × (input_limit < length (file_or_empty files name))

  -- no feed is refused, and the image of a cube of their records has more than 2^30 bytes
  pub record HasLongRecords : Type 0 where
    pub taken : AreTaken
    pub long : HasLongCubeImage plan.schema accepted_records

  -- No feed is refused, and afterwards the file of that name is the image of a cube of their records, of so many bytes;
  -- what is counted of the feeds is this
  pub record HoldsImage (files' : Files) (image : List ℕ) (counts : List FeedCounts) (size : ℕ) : Type 0 where
    pub taken : AreTaken
    pub counts_are : counts ≡ whole_counts
    pub bytes : List ℕ
    pub size_is : size ≡ length bytes
    pub written : get files' image ≡ Some bytes
    pub of_records : IsCubeImage plan.schema bytes accepted_records
    -- and with a batch over 1 that of every least cube of them, in whatever order they come and under any batch
    pub least : 1 < plan.schema.batch → IsLeastImage plan.schema bytes accepted_records
