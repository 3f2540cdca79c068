-- A work on the way through its cutter's lines, and where it stops.
use Rattle.std.proofs.Common.{◌≡◌, ℕ, ◌+◌, ◌≤◌, ◌<◌, lit≤, true, false, List, [], ◌∷◌, ◌++◌, length, map, Option, Some, None, Result, Err, IsErrOf, IsSomeAnd, refl, sym, ◌∙◌, ap, subst, arith, append-nil, add-zero, add_assoc}
use Rattle.std.proofs.lemmas.List.{length-map, length_push, map_push}
use Rattle.std.proofs.lemmas.List.Sums.{count_by-le-length}
use Rattle.cube_view.specs.declared.schema.Schema.{Schema}
use Rattle.feed_reader.proofs.FewPoints.{points_in-length}
use Rattle.feed_reader.specs.Feeds.{points_in}
use Rattle.feed_reader.specs.Headings.{Heading}
use Rattle.feed_reader.specs.Reading.{ReadsRow}
use Rattle.feed_reader.specs.RowCounts.{is_blank_row, is_refused_row}
use Rattle.feed_reader.specs.Rows.{row_of_line}
use Rattle.feed_reader.specs.declared.row.Row.{Row}
use Rattle.feed_reader.specs.declared.row.Row.TheVariants as row
use Rattle.outer_io.proofs.ProgressLaws.{passes_all, passes_none, passes_on}
use Rattle.outer_io.proofs.ToldLaws.{Told-all, Told-each}
use Rattle.outer_io.specs.Cuts.{IsEnd, IsTooMuch}
use Rattle.outer_io.specs.Cutting.{Cutter, input_size, lines_left}
use Rattle.outer_io.specs.Faults.{HasCause, Rose}
use Rattle.outer_io.specs.Lines.{Line, input_limit}
use Rattle.outer_io.specs.Progress.{IsGoing, IsTooLarge, Passes, PassesAll}
use Rattle.outer_io.specs.Told.{Told}
use Rattle.outer_io.specs.declared.cutter.CutFault.{CutFault}
use Rattle.outer_io.specs.declared.cutter.CutFault.TheVariants as fault
use Rattle.crew_feeder.specs.Leaving.{GivesUntil, HasFed, HasFirst, HasTaken, IsFeeding}
use Rattle.crew_feeder.specs.Taking.{IsReady, having_ended, having_taken_row}
use Rattle.crew_feeder.specs.declared.work.FeedWork.{FeedWork}
use Rattle.crew_feeder.proofs.WorkRows.{taken_alike, taken_more}

later_of : {A : Type 0} (o : Option (List A)) (all lines : List A) → IsSomeAnd o (λ rest. all ≡ lines ++ rest) → (later : List A) × (all ≡ lines ++ later)
later_of None all lines h = absurd h
later_of (Some rest) all lines h = (rest, h)

-- a row leaves the cutter, the end's state and the fault as they are
kept : {I : Type 0} (w : FeedWork I) (line : ℕ) (r : Row) → ((having_taken_row w line r).cutter ≡ w.cutter) × ((having_taken_row w line r).end.ended ≡ w.end.ended) × ((having_taken_row w line r).fault ≡ w.fault)
kept w line row.Blank = (refl, refl, refl)
kept w line (row.Point p) = (refl, refl, refl)
kept w line (row.Refused f) = (refl, refl, refl)

module _ {I : Type 0} (left : I → Option (List ℕ)) (faults : I → ℕ) (start : FeedWork I) where
  -- what a line's row is
  abbrev pub row_at : Line → Row
  row_at line = row_of_line start.header.schema start.header.places line

  -- before its run
  pub begins : (schema : Schema) → IsReady schema start → IsFeeding left faults start start
  begins schema ready = record {
    lines = [];
    passed = passes_none left faults start.cutter;
    going = ready.going;
    given = sym (add-zero start.cutter.given);
    few = lit≤ tt;
    taken = record {
      sent = sym (append-nil start.end.points);
      blank = sym (add-zero start.blank);
      refused = sym (add-zero start.refused);
      first = ready.unrun.2;
      end = (refl, refl, refl);
      header = refl;
    };
    open_end = ready.unsent.1;
    fault = ready.unrun.3;
  }

  module _ (now : FeedWork I) (on : IsFeeding left faults start now) where
    -- the lines and one more
    rows_on : (line : Line) → map row_at (on.lines ++ line ∷ []) ≡ map row_at on.lines ++ row_at line ∷ []
    rows_on line = map_push row_at on.lines line

    number_on : (number : ℕ) → number ≡ now.cutter.given + 1 → number ≡ (start.cutter.given + 1) + length (map row_at on.lines)
    number_on number e = let len : length (map row_at on.lines) ≡ length on.lines = length-map on.lines row_at in omega (arith, e, on.given, len)

    -- the counts are no larger than the number of lines
    pub few_taken : (schema : Schema) → IsReady schema start → (length now.end.points ≤ length on.lines) × (now.blank ≤ length on.lines) × (now.refused ≤ length on.lines)
    few_taken schema ready =
        let rows = map row_at on.lines in
        let len : length rows ≡ length on.lines = length-map on.lines row_at in
        let points : length now.end.points ≡ length (points_in rows) = ap length (on.taken.sent ∙ ap (λ ps. ps ++ points_in rows) ready.unsent.0) in (
          omega (arith, points, points_in-length rows, len),
          omega (arith, on.taken.blank, ready.unrun.0, count_by-le-length is_blank_row rows, len),
          omega (arith, on.taken.refused, ready.unrun.1, count_by-le-length is_refused_row rows, len),
        )

    -- a row more is read and taken
    pub takes_row : (cutter : Cutter I) (found : Row × ℕ) (schema : Schema) (after : FeedWork I) → schema ≡ start.header.schema → ReadsRow left faults schema now.header.places now.cutter cutter found → after ≡ having_taken_row (record now { cutter = cutter }) found.1 found.0 → IsFeeding left faults start after
    takes_row cutter found schema after same reads is =
        let line = reads.0 in
        let gives = reads.1 in
        let row_is : found.0 ≡ row_at line = reads.2 ∙ ap (λ z. row_of_line z now.header.places line) same ∙ ap (λ (h : Heading). row_of_line start.header.schema h.places line) on.taken.header in
        let took : HasTaken start (having_taken_row (record now { cutter = cutter }) found.1 found.0) (map row_at on.lines ++ found.0 ∷ []) =
        taken_more start (record now { cutter = cutter }) (map row_at on.lines) found.1 found.0 (number_on found.1 gives.counts) (taken_alike start now (record now { cutter = cutter }) (map row_at on.lines) refl refl refl refl refl on.taken) in
        let at = kept (record now { cutter = cutter }) found.1 found.0 in
        subst (λ (w : FeedWork I). IsFeeding left faults start w) (sym is) (record {
          lines = on.lines ++ line ∷ [];
          passed = subst (λ (c : Cutter I). Passes left faults start.cutter c (on.lines ++ line ∷ [])) (sym at.0) (passes_on left faults start.cutter now.cutter cutter on.lines (line ∷ []) on.passed gives.passed);
          going = subst (λ (c : Cutter I). IsGoing c) (sym at.0) gives.goes_on;
          given = ap (λ (c : Cutter I). c.given) at.0 ∙ gives.given ∙ gives.counts ∙ ap (λ n. n + 1) on.given ∙ add_assoc start.cutter.given (length on.lines) 1 ∙ ap (λ n. start.cutter.given + n) (sym (length_push on.lines line));
          few = omega (arith, gives.small, gives.counts, on.given, length_push on.lines line);
          taken = subst (λ rows. HasTaken start (having_taken_row (record now { cutter = cutter }) found.1 found.0) rows) (ap (λ r. map row_at on.lines ++ r ∷ []) row_is ∙ sym (rows_on line)) took;
          open_end = at.1 ∙ on.open_end;
          fault = at.2 ∙ on.fault;
        })

    -- and its cutter has come a line on
    pub comes_on : (cutter : Cutter I) (found : Row × ℕ) (schema : Schema) (after : FeedWork I) → ReadsRow left faults schema now.header.places now.cutter cutter found → after ≡ having_taken_row (record now { cutter = cutter }) found.1 found.0 → (now.cutter.given < after.cutter.given) × (after.cutter.given ≤ input_limit)
    comes_on cutter found schema after reads is =
        let gives = reads.1 in
        let at = kept (record now { cutter = cutter }) found.1 found.0 in
        let same : after.cutter.given ≡ cutter.given = ap (λ (w : FeedWork I). w.cutter.given) is ∙ ap (λ (c : Cutter I). c.given) at.0 in
        (omega (arith, same, gives.given, gives.counts), omega (arith, same, gives.given, gives.small))

    -- it comes to the end of its cutter
    pub at_end : (cutter : Cutter I) → IsEnd left faults now.cutter cutter → HasFed left faults false start (record now { cutter = cutter })
    at_end cutter end =
        let all : PassesAll left faults start.cutter cutter on.lines = subst (λ ls. PassesAll left faults start.cutter cutter ls) (append-nil on.lines) (passes_all left faults start.cutter now.cutter cutter on.lines [] on.passed end.passed) in
        let after : FeedWork I = record now { cutter = cutter } in record {
          lines = on.lines;
          given = subst (λ o. GivesUntil left faults start.cutter cutter on.lines o) (sym on.fault) (all, end.same.1 ∙ on.given);
          few = on.few;
          taken = taken_alike start now after (map row_at on.lines) refl refl refl refl refl on.taken;
          has_ended = on.open_end;
        }

    first_lines : HasFirst left start.cutter on.lines
    first_lines = Told-each (lines_left left start.cutter) _ _ (λ all h. later_of (lines_left left now.cutter) all on.lines h) on.passed.covers

    all_lines : Told (lines_left left now.cutter) (λ all. all ≡ []) → Told (lines_left left start.cutter) (λ all. all ≡ on.lines)
    all_lines none = Told-each (lines_left left start.cutter) _ _ (λ all e. e ∙ append-nil on.lines) (Told-all (lines_left left start.cutter) (lines_left left now.cutter) on.lines [] on.passed.covers none)

    large_at_first : IsTooLarge left now.cutter → IsTooLarge left start.cutter
    large_at_first large = Told-each (input_size left start.cutter) _ _ (λ size e. subst (λ (o : Option ℕ). Told o (λ n. input_limit < n)) e large) on.passed.size

    module _ {A : Type 0} (cutter : Cutter I) (r : Result A CutFault) (too_much : IsErrOf r fault.TooMuch → IsTooMuch left now.cutter) (cause : HasCause (faults now.cutter.source) (faults cutter.source) r fault.Read) where
      gives_until : (f : CutFault) → r ≡ Err f → GivesUntil left faults start.cutter cutter on.lines (Some f)
      gives_until fault.TooMuch is =
          let much = too_much (subst (λ (x : Result A CutFault). IsErrOf x fault.TooMuch) (sym is) refl) in
          (all_lines much.1, large_at_first much.0, cause.quiet (λ e. cc) ∙ on.passed.quiet)
      gives_until fault.Read is = (first_lines, subst (λ n. Rose n (faults cutter.source)) on.passed.quiet (cause.rose (subst (λ (x : Result A CutFault). IsErrOf x fault.Read) (sym is) refl)))
      gives_until fault.NoMemory is = (first_lines, cause.quiet (λ e. cc) ∙ on.passed.quiet)

      -- it meets a fault
      pub at_fault : (f : CutFault) → r ≡ Err f → HasFed left faults false start (record now { cutter = cutter; fault = Some f })
      at_fault f is =
          let after : FeedWork I = record now { cutter = cutter; fault = Some f } in record {
            lines = on.lines;
            given = gives_until f is;
            few = on.few;
            taken = taken_alike start now after (map row_at on.lines) refl refl refl refl refl on.taken;
            has_ended = on.open_end;
          }

  -- what it has done stays once the End is sent
  pub with_end : (now after : FeedWork I) → HasFed left faults false start now → after ≡ record now { end = having_ended now.end } → HasFed left faults true start after
  with_end now after fed is =
      let ended : FeedWork I = record now { end = having_ended now.end } in
      subst (λ (w : FeedWork I). HasFed left faults true start w) (sym is) (record {
        lines = fed.lines;
        given = fed.given;
        few = fed.few;
        taken = record { sent = fed.taken.sent; blank = fed.taken.blank; refused = fed.taken.refused; first = fed.taken.first; end = fed.taken.end; header = fed.taken.header };
        has_ended = refl;
      })
