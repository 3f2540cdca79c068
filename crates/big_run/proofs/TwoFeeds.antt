-- What the two feeds of a large run leave where memory was found.
use Rattle.std.proofs.Common.{◌≡◌, ◌≢◌, ℕ, ◌<◌, ◌≤◌, List, [], ◌∷◌, map, length, Option, Some, None, refl, ap, ◌∙◌, arith, IsSomeAnd}
use Rattle.crew_feeder.specs.Leaving.{GivesUntil}
use Rattle.crew_feeder.specs.declared.done.FeedDone.{FeedDone}
use Rattle.cube_crew.specs.Crewed.{FeedsLeave, LeavesFeed, feed_rows}
use Rattle.cube_view.specs.Points.{Point}
use Rattle.cube_view.specs.declared.schema.Schema.{Schema}
use Rattle.feed_maker.specs.GeneratedFeed.{generated_feed}
use Rattle.feed_reader.proofs.FeedStart.{some_told}
use Rattle.feed_reader.specs.Feeds.{accepted, points_in, rows}
use Rattle.feed_reader.specs.RowCounts.{count_blank, count_refused}
use Rattle.feed_reader.specs.Rows.{row_of_line}
use Rattle.feed_reader.specs.declared.job.FeedJob.{FeedJob}
use Rattle.outer_io.specs.Cutting.{Cutter, input_size, lines_left}
use Rattle.outer_io.specs.Lines.{Line, input_limit}
use Rattle.outer_io.specs.Told.{Told}
use Rattle.outer_io.specs.declared.cutter.CutFault.{CutFault}
use Rattle.outer_io.specs.declared.cutter.CutFault.TheVariants as cut
use Rattle.run_files.specs.Lines.{counts_line}
use Rattle.big_run.specs.BuiltIn.{big_schema}
use Rattle.big_run.specs.Parts.{IsFeed}
use Rattle.big_run.specs.Sources.{left_in, no_faults}
use Rattle.big_run.specs.Text.{feed_line}
use Rattle.big_run.specs.declared.source.RunSource.{RunSource}

-- a size within the limit is not over it
not_over : (size : Option ℕ) → IsSomeAnd size (λ n. n ≤ input_limit) → Told size (λ n. input_limit < n) → ⊥
not_over None within over = within
not_over (Some n) within over = omega arith

-- a feed that ended for no want of memory has given all its lines
all_given : (start now : Cutter RunSource) (lines : List Line) (fault : Option CutFault) (P : List Line → Type 0) → GivesUntil left_in no_faults start now lines fault → fault ≢ Some cut.NoMemory
    → IsSomeAnd (input_size left_in start) (λ size. size ≤ input_limit) → IsSomeAnd (lines_left left_in start) P → P lines
all_given start now lines None P given found within has = some_told (lines_left left_in start) lines P has given.0.covers
all_given start now lines (Some cut.TooMuch) P given found within has = absurd (not_over (input_size left_in start) within given.1)
all_given start now lines (Some cut.Read) P given found within has = absurd (omega (arith, given.1.1))
all_given start now lines (Some cut.NoMemory) P given found within has = absurd (found refl)

-- so its rows are those of the whole feed
rows-given : (state count : ℕ) (job : FeedJob RunSource) (sent : List Point) (done : FeedDone RunSource) → IsFeed state count job → (left : LeavesFeed left_in no_faults job sent done) → done.counts.fault ≢ Some cut.NoMemory
    → feed_rows job left.lines ≡ rows big_schema (generated_feed state count)
rows-given state count job sent done is left found =
    ap (λ (s : Schema). map (row_of_line s job.header.places) left.lines) is.schema
    ∙ all_given job.cutter left.cutter left.lines done.counts.fault (λ lines. map (row_of_line big_schema job.header.places) lines ≡ rows big_schema (generated_feed state count)) left.given found is.size is.rows

-- it sent the accepted points of the feed
pub sent-given : (state count : ℕ) (job : FeedJob RunSource) (sent : List Point) (done : FeedDone RunSource) → IsFeed state count job → LeavesFeed left_in no_faults job sent done → done.counts.fault ≢ Some cut.NoMemory
    → sent ≡ accepted big_schema (generated_feed state count)
unfolding accepted
sent-given state count job sent done is left found = left.accepted.0 ∙ ap points_in (rows-given state count job sent done is left found)

-- and counted its rows
pub counts_line-given : (name : List ℕ) (state count : ℕ) (job : FeedJob RunSource) (sent : List Point) (done : FeedDone RunSource) → IsFeed state count job → LeavesFeed left_in no_faults job sent done → done.counts.fault ≢ Some cut.NoMemory
    → counts_line name done.counts ≡ feed_line name state count
unfolding counts_line feed_line
counts_line-given name state count job sent done is left found =
    let same = rows-given state count job sent done is left found in
    let fed : done.counts.accepted ≡ length (points_in (rows big_schema (generated_feed state count))) = left.accepted.1 ∙ ap length (left.accepted.0 ∙ ap points_in same) in
    let blank : done.counts.blank ≡ count_blank (rows big_schema (generated_feed state count)) = left.counts.0 ∙ ap count_blank same in
    let refused : done.counts.refused ≡ count_refused (rows big_schema (generated_feed state count)) = left.counts.1 ∙ ap count_refused same in
    rw (fed, blank, refused) refl

-- What two feeds leave, each by itself
pub record FeedsEach (first second : FeedJob RunSource) (sents : List (List Point)) (dones : List (FeedDone RunSource)) : Type 0 where
  pub sent : List Point
  pub sent_too : List Point
  pub done : FeedDone RunSource
  pub done_too : FeedDone RunSource
  pub sents_are : sents ≡ sent ∷ sent_too ∷ []
  pub dones_are : dones ≡ done ∷ done_too ∷ []
  pub first_leaves : LeavesFeed left_in no_faults first sent done
  pub second_leaves : LeavesFeed left_in no_faults second sent_too done_too

pub two_feeds : (first second : FeedJob RunSource) (sents : List (List Point)) (dones : List (FeedDone RunSource)) → FeedsLeave left_in no_faults (first ∷ second ∷ []) sents dones → FeedsEach first second sents dones
two_feeds first second [] [] leave = absurd leave
two_feeds first second [] (d ∷ dones) leave = absurd leave
two_feeds first second (s ∷ sents) [] leave = absurd leave
two_feeds first second (s ∷ []) (d ∷ []) leave = absurd leave.1
two_feeds first second (s ∷ []) (d ∷ e ∷ dones) leave = absurd leave.1
two_feeds first second (s ∷ t ∷ sents) (d ∷ []) leave = absurd leave.1
two_feeds first second (s ∷ t ∷ []) (d ∷ e ∷ []) leave = record { sent = s; sent_too = t; done = d; done_too = e; sents_are = refl; dones_are = refl; first_leaves = leave.0; second_leaves = leave.1.0 }
two_feeds first second (s ∷ t ∷ []) (d ∷ e ∷ f ∷ dones) leave = absurd leave.1.1
two_feeds first second (s ∷ t ∷ u ∷ sents) (d ∷ e ∷ []) leave = absurd leave.1.1
two_feeds first second (s ∷ t ∷ u ∷ sents) (d ∷ e ∷ f ∷ dones) leave = absurd leave.1.1
