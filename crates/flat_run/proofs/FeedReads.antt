-- A feed on the way through its cutter's lines, and the points that are added behind others.
use Rattle.std.proofs.Common.{◌≡◌, ℕ, ◌+◌, ◌≤◌, List, [], ◌∷◌, ◌++◌, All, length, map, Option, refl, sym, ◌∙◌, ap, subst, arith, append-nil, append_assoc, length-append}
use Rattle.std.specs.Prelude.{IsTrue, ◌&&◌}
use Rattle.std.proofs.lemmas.Bool.{and_parts}
use Rattle.std.proofs.lemmas.List.{length_push, map_push}
use Rattle.std.proofs.lemmas.List.Elements.{All-push}
use Rattle.cube_view.specs.Points.{Point, weight_of_point}
use Rattle.cube_view.specs.Validity.{sound, weight_is_told}
use Rattle.cube_view.specs.declared.schema.Schema.{Schema}
use Rattle.feed_reader.proofs.FeedLaws.{points_in-append}
use Rattle.feed_reader.specs.Feeds.{points_in}
use Rattle.feed_reader.specs.Headings.{Heading}
use Rattle.feed_reader.specs.Reading.{ReadsRow}
use Rattle.feed_reader.specs.Rows.{IsValidRow, row_of_line}
use Rattle.feed_reader.specs.declared.job.FeedJob.{FeedJob}
use Rattle.feed_reader.specs.declared.row.Row.{Row}
use Rattle.feed_reader.specs.declared.row.Row.TheVariants as row
use Rattle.outer_io.proofs.ProgressLaws.{passes_all, passes_none, passes_on}
use Rattle.outer_io.specs.Cuts.{IsEnd}
use Rattle.outer_io.specs.Cutting.{Cutter}
use Rattle.outer_io.specs.Lines.{Line, input_limit}
use Rattle.outer_io.specs.Progress.{IsGoing, Passes, PassesAll}
use Rattle.flat_run.specs.Reading.{AreSound, PushesFeed}

-- behind sound points those of a valid row are sound, and it has one at most
sound_on : (schema : Schema) (points : List Point) (found : Row) → IsValidRow schema found → AreSound schema points → AreSound schema (points ++ points_in (found ∷ []))
sound_on schema points row.Blank valid all = subst (AreSound schema) (sym (append-nil points)) all
sound_on schema points (row.Point p) valid all = All-push (λ q. IsTrue (sound schema q)) points p all (and_parts (sound schema p) (weight_is_told schema.weight (weight_of_point p)) valid).0
sound_on schema points (row.Refused f) valid all = subst (AreSound schema) (sym (append-nil points)) all

one_at_most : (points : List Point) (found : Row) → length (points ++ points_in (found ∷ [])) ≤ length points + 1
one_at_most points row.Blank = let e = ap (λ (l : List Point). length l) (append-nil points) in omega (arith, e)
one_at_most points (row.Point p) = let e = length_push points p in omega (arith, e)
one_at_most points (row.Refused f) = let e = ap (λ (l : List Point). length l) (append-nil points) in omega (arith, e)

module _ {S : Type 0} (left : S → Option (List ℕ)) (faults : S → ℕ) (schema : Schema) (start : FeedJob S) (before : List Point) where
  -- what a line's row is
  abbrev pub row_at : Line → Row
  row_at line = row_of_line start.header.schema start.header.places line

  -- the points among the rows of some lines of a feed that was as at first were added, and it goes on
  pub record GoesOn (feed : FeedJob S) (points : List Point) : Type 0 where
    pub lines : List Line
    pub passed : Passes left faults start.cutter feed.cutter lines
    pub going : IsGoing feed.cutter
    pub given : feed.cutter.given ≡ 1 + length lines
    pub small : feed.cutter.given ≤ input_limit
    pub header : feed.header ≡ start.header
    pub points_are : points ≡ before ++ points_in (map row_at lines)
    pub are_sound : AreSound schema points
    pub few : length points ≤ length before + length lines

  -- before the first row
  pub begins : IsGoing start.cutter → start.cutter.given ≡ 1 → AreSound schema before → GoesOn start before
  begins going given all = record {
    lines = [];
    passed = passes_none left faults start.cutter;
    going = going;
    given = given;
    small = omega (arith, given);
    header = refl;
    points_are = sym (append-nil before);
    are_sound = all;
    few = omega arith;
  }

  module _ (feed : FeedJob S) (points : List Point) (on : GoesOn feed points) where
    -- a row more is read and taken
    pub takes_row : (after : FeedJob S) (points' : List Point) (found : Row × ℕ) → schema ≡ start.header.schema → ReadsRow left faults schema feed.header.places feed.cutter after.cutter found → IsValidRow schema found.0 → after.header ≡ feed.header
        → points' ≡ points ++ points_in (found.0 ∷ []) → GoesOn after points'
    takes_row after points' found same reads valid header more =
        let line = reads.0 in
        let rows = map row_at on.lines in
        let gives = reads.1 in
        let row_is : found.0 ≡ row_at line = reads.2 ∙ ap (λ z. row_of_line z feed.header.places line) same ∙ ap (λ (h : Heading). row_of_line start.header.schema h.places line) on.header in
        let rows_are : rows ++ found.0 ∷ [] ≡ map row_at (on.lines ++ line ∷ []) = ap (λ r. rows ++ r ∷ []) row_is ∙ sym (map_push row_at on.lines line) in
        let longer : length (on.lines ++ line ∷ []) ≡ length on.lines + 1 = length_push on.lines line in
        let one = one_at_most points found.0 in
        record {
          lines = on.lines ++ line ∷ [];
          passed = passes_on left faults start.cutter feed.cutter after.cutter on.lines (line ∷ []) on.passed gives.passed;
          going = gives.goes_on;
          given = omega (arith, gives.given, gives.counts, on.given, longer);
          small = omega (arith, gives.given, gives.small);
          header = header ∙ on.header;
          points_are =
              more
              ∙ ap (λ (l : List Point). l ++ points_in (found.0 ∷ [])) on.points_are
              ∙ append_assoc before (points_in rows) (points_in (found.0 ∷ []))
              ∙ ap (λ (l : List Point). before ++ l) (sym (points_in-append rows (found.0 ∷ [])) ∙ ap points_in rows_are);
          are_sound = subst (AreSound schema) (sym more) (sound_on schema points found.0 valid on.are_sound);
          few = let n = ap (λ (l : List Point). length l) more in omega (arith, on.few, one, n, longer);
        }

    -- it comes to the end of its cutter
    pub at_end : (cutter : Cutter S) → IsEnd left faults feed.cutter cutter → PushesFeed left faults schema start before points
    at_end cutter end =
        let all : PassesAll left faults start.cutter cutter on.lines = subst (λ ls. PassesAll left faults start.cutter cutter ls) (append-nil on.lines) (passes_all left faults start.cutter feed.cutter cutter on.lines [] on.passed end.passed) in
        record {
          rows = map row_at on.lines;
          read = record { lines = on.lines; all = all.covers; within = all.size; rows_are = refl };
          points = on.points_are;
          are_sound = on.are_sound;
          few = omega (arith, on.few, on.given, on.small);
        }
