-- What is counted row by row, and what one feed adds to a cube and its gathered points.
use Rattle.std.specs.Prelude.{◌≡◌, ℕ, ◌+◌, List, Option, None}
use Rattle.feed_reader.specs.Feeds.{points_in}
use Rattle.feed_reader.specs.RowCounts.{count_accepted, count_blank, count_refused, first_refusals}
use Rattle.feed_reader.specs.RowCounts.{having_kept}
use Rattle.feed_reader.specs.declared.counts.FeedCounts.{FeedCounts}
use Rattle.feed_reader.specs.declared.job.FeedJob.{FeedJob}
use Rattle.feed_reader.specs.declared.row.Row.{Row}
use Rattle.feed_reader.specs.declared.row.Row.TheVariants as row
use Rattle.save_run.specs.Grouping.{GroupsTake}
use Rattle.save_run.specs.Taking.{HasRows, counts_at_end}
use Rattle.save_run.specs.declared.grouped_cube.GroupedCube.{GroupedCube}
use Rattle.save_run.specs.declared.tally.Tally.{Tally}

-- the tally of these rows, the first of which is that of line 2
abbrev pub tally_of : List Row → Tally
tally_of rows = record { accepted = count_accepted rows; blank = count_blank rows; refused = count_refused rows; first = first_refusals 2 rows }

-- the tally once it has counted a row, whose line has this number
abbrev pub having_counted : Tally → ℕ → Row → Tally
having_counted tally line row.Blank = record tally { blank = tally.blank + 1 }
having_counted tally line (row.Point p) = record tally { accepted = tally.accepted + 1 }
having_counted tally line (row.Refused f) = record tally { refused = tally.refused + 1; first = having_kept tally.first (record { line = line; fault = f }) }

-- what a tally says of a feed that was read to its end
abbrev pub tally_counts : Tally → FeedCounts
tally_counts tally = record { accepted = tally.accepted; blank = tally.blank; refused = tally.refused; first = tally.first; fault = None }

-- A feed was read to its end: the points among its rows were taken, and this is what is counted of them
pub record JoinsFeed {S : Type 0} (left : S → Option (List ℕ)) (faults : S → ℕ) (feed : FeedJob S) (before after : GroupedCube) (counts : FeedCounts) : Type 0 where
  -- the rows of the feed
  pub rows : List Row
  pub read : HasRows left faults feed rows
  -- the points among them are counted behind those of before
  pub points : GroupsTake before after (points_in rows)
  pub counts_are : counts ≡ counts_at_end rows
