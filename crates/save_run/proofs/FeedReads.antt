-- A feed on the way through its cutter's lines, and the cube that takes its points in groups.
use Rattle.std.proofs.Common.{◌≡◌, ℕ, ◌+◌, ◌≤◌, ◌<◌, ◌^◌, List, [], ◌∷◌, ◌++◌, length, map, Option, refl, sym, ◌∙◌, ap, subst, arith, append-nil, Result, Err, IsErrOf}
use Rattle.std.proofs.lemmas.List.{length-map, length_push, map_push}
use Rattle.cube_view.specs.declared.schema.Schema.{Schema}
use Rattle.feed_reader.proofs.FeedLaws.{points_in-append}
use Rattle.feed_reader.specs.Feeds.{points_in}
use Rattle.feed_reader.specs.Headings.{Heading}
use Rattle.feed_reader.specs.Reading.{ReadsRow}
use Rattle.feed_reader.specs.Rows.{row_of_line}
use Rattle.feed_reader.specs.declared.counts.FeedCounts.{FeedCounts}
use Rattle.feed_reader.specs.declared.job.FeedJob.{FeedJob}
use Rattle.feed_reader.specs.declared.row.Row.{Row}
use Rattle.outer_io.proofs.ProgressLaws.{passes_all, passes_none, passes_on}
use Rattle.outer_io.specs.Cuts.{IsEnd}
use Rattle.outer_io.specs.Cutting.{Cutter}
use Rattle.outer_io.specs.Faults.{HasCause, Rose}
use Rattle.outer_io.specs.Lines.{Line, input_limit}
use Rattle.outer_io.specs.Progress.{IsGoing, Passes, PassesAll}
use Rattle.outer_io.specs.declared.cutter.CutFault.{CutFault}
use Rattle.outer_io.specs.declared.cutter.CutFault.TheVariants as fault
use Rattle.save_run.specs.Counting.{JoinsFeed, tally_counts, having_counted, tally_of}
use Rattle.save_run.specs.Grouping.{GroupsTake, grouped_size}
use Rattle.save_run.specs.declared.grouped_cube.GroupedCube.{GroupedCube}
use Rattle.save_run.specs.declared.tally.Tally.{Tally}
use Rattle.save_run.proofs.Groups.{takes_none, takes_twice}
use Rattle.save_run.proofs.Tallies.{few_counted, tally_more}

-- a call behind one that met no fault of a source, which meets none itself
pub no_cause : {A B : Type 0} (first now after : ℕ) (r : Result A CutFault) (s : Result B CutFault) → now ≡ first → ¬ IsErrOf r fault.Read → ¬ IsErrOf s fault.Read → HasCause now after r fault.Read → HasCause first after s fault.Read
no_cause first now after r s same quiet none cause = record { rose = λ read. absurd (none read); quiet = λ _. cause.quiet quiet ∙ same }

-- a call behind one that met no fault of a source, which answers the fault that it met itself
pub same_cause : {A B : Type 0} (first now after : ℕ) (r : Result A CutFault) (s : Result B CutFault) (f : CutFault) → now ≡ first → r ≡ Err f → s ≡ Err f → HasCause now after r fault.Read → HasCause first after s fault.Read
same_cause first now after r s f same is also cause = record {
  rose = λ read. subst (λ n. Rose n after) same (cause.rose (let e : f ≡ fault.Read = cc in is ∙ ap (λ x. Err x) e));
  quiet = λ other. cause.quiet (λ read. let e : f ≡ fault.Read = cc in other (also ∙ ap (λ x. Err x) e)) ∙ same;
}

-- the points of some rows, and then that of one row more
takes_on : (a b c : GroupedCube) (rows : List Row) (row : Row) → b.cube.schema ≡ a.cube.schema → GroupsTake a b (points_in rows) → GroupsTake b c (points_in (row ∷ [])) → GroupsTake a c (points_in (rows ++ row ∷ []))
takes_on a b c rows row same p q = subst (λ points. GroupsTake a c points) (sym (points_in-append rows (row ∷ []))) (takes_twice a b c (points_in rows) (points_in (row ∷ [])) same p q)

module _ {S : Type 0} (left : S → Option (List ℕ)) (faults : S → ℕ) (start : FeedJob S) (before : GroupedCube) where
  -- what a line's row is
  abbrev pub row_at : Line → Row
  row_at line = row_of_line start.header.schema start.header.places line

  -- the rows of some lines of a feed that was as at first were taken, and it goes on
  pub record GoesOn (feed : FeedJob S) (grouped : GroupedCube) (tally : Tally) : Type 0 where
    pub lines : List Line
    pub passed : Passes left faults start.cutter feed.cutter lines
    pub going : IsGoing feed.cutter
    pub given : feed.cutter.given ≡ 1 + length lines
    pub few : feed.cutter.given ≤ input_limit
    pub header : feed.header ≡ start.header
    pub points : GroupsTake before grouped (points_in (map row_at lines))
    pub schema : grouped.cube.schema ≡ before.cube.schema
    pub size : grouped_size grouped ≤ grouped_size before + length lines
    pub counted : tally ≡ tally_of (map row_at lines)

  -- before the first row
  pub begins : (tally : Tally) → IsGoing start.cutter → start.cutter.given ≡ 1 → tally ≡ tally_of [] → GoesOn start before tally
  begins tally going given counted = record {
    lines = [];
    passed = passes_none left faults start.cutter;
    going = going;
    given = given;
    few = omega (arith, given);
    header = refl;
    points = takes_none before;
    schema = refl;
    size = omega arith;
    counted = counted;
  }

  module _ (feed : FeedJob S) (grouped : GroupedCube) (tally : Tally) (on : GoesOn feed grouped tally) where
    rows_few : length (map row_at on.lines) < input_limit
    rows_few = omega (arith, on.given, on.few, length-map on.lines row_at)

    -- the counts and the cube have room for one row more
    pub has_room : (tally.accepted < 2 ^ 32) × (tally.blank < 2 ^ 32) × (tally.refused < 2 ^ 32) × (grouped_size grouped < grouped_size before + input_limit)
    has_room =
        let few = few_counted (map row_at on.lines) tally on.counted in
        let rows = rows_few in
        (omega (arith, few.0, rows), omega (arith, few.1, rows), omega (arith, few.2, rows), omega (arith, on.given, on.few, on.size))

    -- a row more is read and taken
    pub takes_row : (after : FeedJob S) (grouped' : GroupedCube) (tally' : Tally) (found : Row × ℕ) (schema : Schema) → schema ≡ start.header.schema → ReadsRow left faults schema feed.header.places feed.cutter after.cutter found → after.header ≡ feed.header
        → tally' ≡ having_counted tally found.1 found.0 → GroupsTake grouped grouped' (points_in (found.0 ∷ [])) → grouped'.cube.schema ≡ grouped.cube.schema → grouped_size grouped' ≤ grouped_size grouped + 1 → GoesOn after grouped' tally'
    takes_row after grouped' tally' found schema same reads header counted points schema_is size =
        let line = reads.0 in
        let gives = reads.1 in
        let rows = map row_at on.lines in
        let row_is : found.0 ≡ row_at line = reads.2 ∙ ap (λ z. row_of_line z feed.header.places line) same ∙ ap (λ (h : Heading). row_of_line start.header.schema h.places line) on.header in
        let rows_are : rows ++ found.0 ∷ [] ≡ map row_at (on.lines ++ line ∷ []) = ap (λ r. rows ++ r ∷ []) row_is ∙ sym (map_push row_at on.lines line) in
        let len : length rows ≡ length on.lines = length-map on.lines row_at in
        let number : found.1 ≡ 2 + length rows = omega (arith, gives.counts, on.given, len) in
        let more : length (on.lines ++ line ∷ []) ≡ length on.lines + 1 = length_push on.lines line in
        record {
          lines = on.lines ++ line ∷ [];
          passed = passes_on left faults start.cutter feed.cutter after.cutter on.lines (line ∷ []) on.passed gives.passed;
          going = gives.goes_on;
          given = omega (arith, gives.given, gives.counts, on.given, more);
          few = omega (arith, gives.given, gives.small);
          header = header ∙ on.header;
          points = subst (λ rs. GroupsTake before grouped' (points_in rs)) rows_are (takes_on before grouped grouped' rows found.0 on.schema on.points points);
          schema = schema_is ∙ on.schema;
          size = omega (arith, on.size, size, more);
          counted = counted ∙ ap (λ t. having_counted t found.1 found.0) on.counted ∙ tally_more rows found.1 found.0 number ∙ ap tally_of rows_are;
        }

    -- it comes to the end of its cutter
    pub at_end : (cutter : Cutter S) (counts : FeedCounts) → IsEnd left faults feed.cutter cutter → counts ≡ tally_counts tally → JoinsFeed left faults start before grouped counts
    at_end cutter counts end is =
        let all : PassesAll left faults start.cutter cutter on.lines = subst (λ ls. PassesAll left faults start.cutter cutter ls) (append-nil on.lines) (passes_all left faults start.cutter feed.cutter cutter on.lines [] on.passed end.passed) in
        record {
          rows = map row_at on.lines;
          read = record { lines = on.lines; all = all.covers; within = all.size; rows_are = refl };
          points = on.points;
          counts_are = is ∙ ap tally_counts on.counted;
        }
