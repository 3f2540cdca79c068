-- What a feed of a run leaves that was read to its end.
use Rattle.std.proofs.Common.{◌≡◌, ◌+◌, ℕ, false, List, ◌∷◌, length, map, Option, Some, None, IsSomeAnd, sym, ap, subst, ◌∙◌}
use Rattle.crew_feeder.specs.Leaving.{GivesUntil}
use Rattle.crew_feeder.specs.declared.done.FeedDone.{FeedDone}
use Rattle.cube_crew.specs.Crewed.{LeavesFeed, feed_rows}
use Rattle.cube_view.specs.Points.{Point}
use Rattle.cube_view.specs.declared.schema.Schema.{Schema}
use Rattle.feed_reader.proofs.FeedLaws.{feed_read, rows_read}
use Rattle.feed_reader.proofs.FeedStart.{new_lines, new_rest, some_told}
use Rattle.feed_reader.specs.Feeds.{accepted, is_feed_refused, points_in, rows}
use Rattle.feed_reader.specs.RowCounts.{count_blank, count_refused, counts_of_rows, first_refusals}
use Rattle.feed_reader.specs.Rows.{row_of_line}
use Rattle.feed_reader.specs.declared.job.FeedJob.{FeedJob}
use Rattle.outer_io.proofs.ToldLaws.{Told-some}
use Rattle.outer_io.specs.Cutting.{Cutter, lines_left, rest_of}
use Rattle.outer_io.specs.Lines.{lines}
use Rattle.outer_io.specs.Progress.{PassesAll}
use Rattle.run_files.specs.Headed.{IsHeaded}
use Rattle.plan_run.specs.Completed.{whole_rows}

-- A feed with these bytes was read to its end, and these are its points
pub record IsFed {I : Type 0} (schema : Schema) (bytes : List ℕ) (sent : List Point) (done : FeedDone I) : Type 0 where
  pub sent_is : sent ≡ accepted schema bytes
  pub counts : done.counts ≡ counts_of_rows (whole_rows schema bytes)
  pub taken : is_feed_refused schema bytes ≡ false

module _ {I : Type 0} (left : I → Option (List ℕ)) (faults : I → ℕ) (schema : Schema) (bytes : List ℕ) where
  pub is_fed : (job : FeedJob I) (sent : List Point) (done : FeedDone I) → IsHeaded left faults schema (Some bytes) (record { cutter = job.cutter; header = job.header }) → LeavesFeed left faults job sent done → done.counts.fault ≡ None → IsFed schema bytes sent done
  is_fed job sent done headed leaves whole =
      let before = headed.reads.before in
      let new = headed.reads.made in
      let line = headed.reads.header.0 in
      let gives = headed.reads.header.2 in
      let head = headed.reads.header.3 in
      let given : PassesAll left faults job.cutter leaves.cutter leaves.lines = (subst (λ f. GivesUntil left faults job.cutter leaves.cutter leaves.lines f) whole leaves.given).0 in
      let start : (before.taken ≡ 0) × (before.given ≡ 0) = (ap (λ (k : Cutter I). k.taken) new, ap (λ (k : Cutter I). k.given) new) in
      let rest = new_rest left before headed.source bytes new headed.left_is in
      let all = Told-some (rest_of left before) bytes (λ feed. (is_feed_refused schema feed ≡ false) × (accepted schema feed ≡ points_in (map (row_of_line schema job.header.places) leaves.lines))) rest
      (feed_read left faults schema before job.cutter leaves.cutter line job.header.places leaves.lines start gives.passed headed.reads.accepted given) in
      let of_schema : feed_rows job leaves.lines ≡ map (row_of_line schema job.header.places) leaves.lines = ap (λ z. map (row_of_line z job.header.places) leaves.lines) headed.reads.schema_is in
      let lines_are : lines bytes ≡ line ∷ leaves.lines =
      some_told (lines_left left job.cutter) leaves.lines (λ more. lines bytes ≡ line ∷ more)
      (Told-some (lines_left left before) (lines bytes) (λ all. IsSomeAnd (lines_left left job.cutter) (λ more. all ≡ line ∷ more)) (new_lines left before headed.source bytes new headed.left_is) gives.passed.covers) given.covers in
      let its_rows : feed_rows job leaves.lines ≡ rows schema bytes = of_schema ∙ sym (rows_read schema bytes job.header.places line leaves.lines lines_are head) in
      let number : job.cutter.given + 1 ≡ 2 = ap (λ (n : ℕ). n + 1) (gives.given ∙ gives.counts ∙ ap (λ (n : ℕ). n + 1) start.1) in
      let sent_are : sent ≡ accepted schema bytes = leaves.accepted.0 ∙ ap points_in of_schema ∙ sym all.1 in
      record {
        sent_is = sent_are;
        counts = λ i. record {
          accepted = (leaves.accepted.1 ∙ ap (λ (ps : List Point). length ps) leaves.accepted.0 ∙ ap (λ rs. length (points_in rs)) its_rows) i;
          blank = (leaves.counts.0 ∙ ap count_blank its_rows) i;
          refused = (leaves.counts.1 ∙ ap count_refused its_rows) i;
          first = (leaves.first ∙ ap (λ n. first_refusals n (feed_rows job leaves.lines)) number ∙ ap (first_refusals 2) its_rows) i;
          fault = whole i;
        };
        taken = all.0;
      }
