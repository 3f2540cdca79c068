-- Feeds that are read one after another into a new cube, and what is counted of them.
use Rattle.std.specs.Prelude.{◌≡◌, ◌<◌, ℕ, List, All, Any, map, Option, None, Result, Ok, Err}
use Rattle.std.specs.List.{AllZip, flat_map}
use Rattle.cube_store.specs.Holding.{CubeCounts, IsLeastCubeOf}
use Rattle.cube_store.specs.declared.cube.Cube.{Cube}
use Rattle.cube_view.specs.declared.schema.Schema.{Schema}
use Rattle.feed_reader.specs.Feeds.{points_in}
use Rattle.feed_reader.specs.RowCounts.{counts_of_rows}
use Rattle.feed_reader.specs.Rows.{row_of_line}
use Rattle.feed_reader.specs.declared.counts.FeedCounts.{FeedCounts}
use Rattle.feed_reader.specs.declared.job.FeedJob.{FeedJob}
use Rattle.feed_reader.specs.declared.row.Row.{Row}
use Rattle.outer_io.specs.Cutting.{lines_left}
use Rattle.outer_io.specs.Faults.{Rose}
use Rattle.outer_io.specs.Lines.{Line}
use Rattle.outer_io.specs.Progress.{IsGoing, IsTooLarge, IsWithinLimit}
use Rattle.outer_io.specs.Told.{Told}
use Rattle.outer_io.specs.declared.cutter.CutFault.{CutFault}
use Rattle.outer_io.specs.declared.cutter.CutFault.TheVariants as fault

-- what is counted of a feed that was read to its end and has these rows
abbrev pub counts_at_end : List Row → FeedCounts
counts_at_end rows = counts_of_rows (record { rows = rows; fault = None })

module _ {S : Type 0} (left : S → Option (List ℕ)) (faults : S → ℕ) where
  -- no source of these feeds met a fault
  abbrev pub AreQuiet : List (FeedJob S) → Type 0
  AreQuiet feeds = All (λ (feed : FeedJob S). faults feed.cutter.source ≡ 0) feeds

  -- A feed of which the header alone was read, under the schema
  pub record IsUnread (schema : Schema) (feed : FeedJob S) : Type 0 where
    pub header : feed.header.schema ≡ schema
    pub going : IsGoing feed.cutter
    pub given : feed.cutter.given ≡ 1
    pub quiet : faults feed.cutter.source ≡ 0

  -- All lines that the feed has left have these rows, and it is within the limit of an input
  pub record HasRows (feed : FeedJob S) (rows : List Row) : Type 0 where
    pub lines : List Line
    pub all : Told (lines_left left feed.cutter) (λ all. all ≡ lines)
    pub within : IsWithinLimit left feed.cutter
    pub rows_are : rows ≡ map (row_of_line feed.header.schema feed.header.places) lines

  -- The cube counts the points of all feeds, in order, and this is what is counted of their rows
  pub record TakesAll (schema : Schema) (before after : List (FeedJob S)) (cube : Cube) (counts : List FeedCounts) : Type 0 where
    -- the rows of each feed
    pub rows : List (List Row)
    pub read : AllZip HasRows before rows
    -- the cube counts the points among them
    pub schema_is : cube.schema ≡ schema
    pub points : CubeCounts cube (flat_map points_in rows)
    -- and with a batch of several points it is the least cube of them
    pub least : 1 < schema.batch → IsLeastCubeOf cube (flat_map points_in rows)
    pub counts_are : counts ≡ map counts_at_end rows
    -- no source met a fault
    pub quiet : AreQuiet after

  -- why the fault that one of the feeds met ended the reading; only a read that failed is a fault of a source
  abbrev pub EndsBy : List (FeedJob S) → List (FeedJob S) → CutFault → Type 0
  EndsBy before after fault.Read = Any (λ (feed : FeedJob S). Rose 0 (faults feed.cutter.source)) after
  EndsBy before after fault.TooMuch = Any (λ (feed : FeedJob S). IsTooLarge left feed.cutter) before × AreQuiet after
  EndsBy before after fault.NoMemory = AreQuiet after

  -- what reading the feeds answers: the cube and the counts, or the fault of the first feed that met one
  abbrev pub TakesFeeds : Schema → List (FeedJob S) → List (FeedJob S) → Result (Cube × List FeedCounts) CutFault → Type 0
  TakesFeeds schema before after (Ok taken) = TakesAll schema before after taken.0 taken.1
  TakesFeeds schema before after (Err f) = EndsBy before after f
