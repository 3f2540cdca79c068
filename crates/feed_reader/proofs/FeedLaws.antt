-- Laws of a feed whose lines a cutter gives: its header, the points after it, and whether it is refused.
use Rattle.std.proofs.Common.{◌≡◌, ℕ, ◌<◌, ◌≤◌, true, false, not, ◌||◌, nat_lt, List, [], ◌∷◌, ◌++◌, map, drop, length, Option, Ok, Err, is_ok, refl, sym, ◌∙◌, ap, append_assoc, arith, IsSomeAnd}
use Rattle.std.proofs.Math.Bool.{or-true}
use Rattle.std.proofs.lemmas.Bool.Decides.{nat_tests}
use Rattle.std.proofs.lemmas.List.{map_push}
use Rattle.cube_view.specs.declared.schema.Schema.{Schema}
use Rattle.cube_view.specs.declared.spot.Point.{Point}
use Rattle.outer_io.specs.Cutting.{Cutter, input_size, lines_left, rest_of}
use Rattle.outer_io.specs.Lines.{Line, Bytes, Long, input_limit, lines}
use Rattle.outer_io.specs.Progress.{IsTooLarge, Passes, PassesAll}
use Rattle.outer_io.specs.Told.{Told}
use Rattle.outer_io.proofs.ToldLaws.{Told-both, Told-each}
use Rattle.feed_reader.proofs.FeedStart.{lines_at_start, size_at_start, some_each, some_told}
use Rattle.feed_reader.specs.Feeds.{accepted, feed_head, head_of_lines, is_feed_refused, points_in, rows, rows_under}
use Rattle.feed_reader.specs.Reading.{AcceptsRows, IsAtStart, IsHeadRefused, LeavesAccepted}
use Rattle.feed_reader.specs.Rows.{row_of_line}
use Rattle.feed_reader.specs.declared.header.HeadFault.{HeadFault}
use Rattle.feed_reader.specs.declared.row.Row.{Row}
use Rattle.feed_reader.specs.declared.row.Row.TheVariants as row

-- the first line alone says what the header is
pub head_of_lines-cons : (schema : Schema) (line : Line) (rest : List Line) → head_of_lines schema (line ∷ rest) ≡ head_of_lines schema (line ∷ [])
head_of_lines-cons schema (Bytes bytes) rest = refl
head_of_lines-cons schema Long rest = refl

-- the points of rows, and of further rows after them
pub points_in-append : (xs ys : List Row) → points_in (xs ++ ys) ≡ points_in xs ++ points_in ys
points_in-append [] ys = refl
points_in-append (row.Blank ∷ xs) ys = points_in-append xs ys
points_in-append (row.Point p ∷ xs) ys = ap (λ ps. p ∷ ps) (points_in-append xs ys)
points_in-append (row.Refused f ∷ xs) ys = points_in-append xs ys

-- the points at first and of the lines so far, and then of one line more
pub points_of_more : (meaning : Line → Row) (lines : List Line) (line : Line) (r : Row) (first points after : List Point) → points ≡ first ++ points_in (map meaning lines) → r ≡ meaning line → after ≡ points ++ points_in (r ∷ []) → after ≡ first ++ points_in (map meaning (lines ++ line ∷ []))
points_of_more meaning lines line r first points after so_far is more =
    more ∙ ap (λ ps. ps ++ points_in (r ∷ [])) so_far ∙ ap (λ s. (first ++ points_in (map meaning lines)) ++ points_in (s ∷ [])) is
    ∙ append_assoc first (points_in (map meaning lines)) (points_in (meaning line ∷ []))
    ∙ ap (λ ps. first ++ ps) (sym (points_in-append (map meaning lines) (meaning line ∷ [])) ∙ ap points_in (sym (map_push meaning lines line)))

-- a feed without a header is refused
pub headless_refused : (schema : Schema) (feed : List ℕ) (fault : HeadFault) → feed_head schema feed ≡ Err fault → is_feed_refused schema feed ≡ true
unfolding is_feed_refused
headless_refused schema feed fault bad = ap (λ h. not (is_ok h) || nat_lt input_limit (length feed)) bad

-- so is one whose first line is no header
pub refused_by_head : (schema : Schema) (feed : List ℕ) (fault : HeadFault) → head_of_lines schema (lines feed) ≡ Err fault → is_feed_refused schema feed ≡ true
unfolding feed_head
refused_by_head schema feed fault bad = headless_refused schema feed fault bad

-- so is one over the limit
pub refused_by_size : (schema : Schema) (feed : List ℕ) → input_limit < length feed → is_feed_refused schema feed ≡ true
unfolding is_feed_refused
refused_by_size schema feed large =
    let over : nat_lt input_limit (length feed) ≡ true = grind (arith, nat_tests) in
    ap (λ b. not (is_ok (feed_head schema feed)) || b) over ∙ or-true (not (is_ok (feed_head schema feed)))

-- one with a header that is within the limit is not
pub not_refused : (schema : Schema) (feed places : List ℕ) → feed_head schema feed ≡ Ok places → length feed ≤ input_limit → is_feed_refused schema feed ≡ false
unfolding is_feed_refused
not_refused schema feed places good small =
    let under : nat_lt input_limit (length feed) ≡ false = grind (arith, nat_tests) in
    ap (λ h. not (is_ok h) || nat_lt input_limit (length feed)) good ∙ under

-- the accepted records of a feed whose first line is a header are the points among the rows of its further lines
pub accepted-lines : (schema : Schema) (feed places : List ℕ) (line : Line) (rest : List Line) → lines feed ≡ line ∷ rest → head_of_lines schema (line ∷ []) ≡ Ok places → AcceptsRows schema places feed rest
unfolding accepted rows feed_head
accepted-lines schema feed places line rest is head =
    let first : head_of_lines schema (line ∷ rest) ≡ Ok places = head_of_lines-cons schema line rest ∙ head in (
      ap (head_of_lines schema) is ∙ first,
      ap (λ ls. points_in (rows_under schema (head_of_lines schema ls) (drop 1 ls))) is ∙ ap (λ h. points_in (rows_under schema h rest)) first,
    )

-- all rows of such a feed, by its further lines
pub rows_read : (schema : Schema) (feed places : List ℕ) (line : Line) (rest : List Line) → lines feed ≡ line ∷ rest → head_of_lines schema (line ∷ []) ≡ Ok places → rows schema feed ≡ map (row_of_line schema places) rest
unfolding rows feed_head
rows_read schema feed places line rest is head =
    ap (λ (all : List Line). rows_under schema (head_of_lines schema all) (drop 1 all)) is
    ∙ ap (λ h. rows_under schema h rest) (head_of_lines-cons schema line rest ∙ head)

module _ {S : Type 0} (left : S → Option (List ℕ)) (faults : S → ℕ) (schema : Schema) where
  -- after the line that is the header, the cutter has the lines left whose points are accepted
  pub leaves_accepted : (a b : Cutter S) (line : Line) (places : List ℕ) → Passes left faults a b (line ∷ []) → head_of_lines schema (line ∷ []) ≡ Ok places → IsAtStart a → LeavesAccepted left schema places a b
  leaves_accepted a b line places passed head start =
      Told-each (rest_of left a) _ _ (λ feed is. some_each (lines_left left b) (λ rest. lines feed ≡ line ∷ rest) (AcceptsRows schema places feed) (λ rest e. accepted-lines schema feed places line rest e head) is)
      (lines_at_start (λ all. IsSomeAnd (lines_left left b) (λ rest. all ≡ line ∷ rest)) (rest_of left a) a.taken a.given start.0 start.1 passed.covers)

  -- where the next line of a cutter at the start is no header, the feed is refused
  pub head_refused : (a : Cutter S) (fault : HeadFault) → IsAtStart a → IsHeadRefused left schema a fault → Told (rest_of left a) (λ feed. is_feed_refused schema feed ≡ true)
  head_refused a fault start bad =
      Told-each (rest_of left a) _ _ (λ feed e. refused_by_head schema feed fault e) (lines_at_start (λ all. head_of_lines schema all ≡ Err fault) (rest_of left a) a.taken a.given start.0 start.1 bad)

  -- where it is too large after some lines, it is refused
  pub too_large_refused : (a b : Cutter S) (passed : List Line) → IsAtStart a → Passes left faults a b passed → IsTooLarge left b → Told (rest_of left a) (λ feed. is_feed_refused schema feed ≡ true)
  too_large_refused a b passed start over large =
      Told-each (rest_of left a) _ _ (refused_by_size schema) (size_at_start (λ n. input_limit < n) (rest_of left a) a.taken (input_size left b) start.0 over.size large)

  -- where the header is read and all lines after it, the feed is not refused, and its accepted records are the points
  -- of these lines
  pub feed_read : (a b c : Cutter S) (line : Line) (places : List ℕ) (more : List Line) → IsAtStart a → Passes left faults a b (line ∷ []) → LeavesAccepted left schema places a b → PassesAll left faults b c more
      → Told (rest_of left a) (λ feed. (is_feed_refused schema feed ≡ false) × (accepted schema feed ≡ points_in (map (row_of_line schema places) more)))
  feed_read a b c line places more start passed leaves all =
      Told-each (rest_of left a) _ _ (λ feed both. let rows = some_told (lines_left left b) more (AcceptsRows schema places feed) both.0 all.covers in (not_refused schema feed places rows.0 both.1, rows.1))
      (Told-both (rest_of left a) _ _ leaves (size_at_start (λ n. n ≤ input_limit) (rest_of left a) a.taken (input_size left b) start.0 passed.size all.size))
