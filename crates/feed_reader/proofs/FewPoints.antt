-- A feed gives no more points than it has bytes, and no more than are counted.
use Rattle.std.proofs.Common.{◌≡◌, ℕ, suc, ◌+◌, ◌-◌, ◌≤◌, min, Bool, true, false, ◌==◌, nat_le, List, [], ◌∷◌, drop, length, map, take, Result, Ok, Err, refl, arith}
use Rattle.std.specs.Prelude.{if◌then◌else◌}
use Rattle.std.proofs.lemmas.Bool.{leb-true}
use Rattle.std.proofs.lemmas.List.{length-drop, length-map, length-take}
use Rattle.outer_io.specs.Lines.{counted, input_limit, lines, lines_of, onto_whole, whole_lines}
use Rattle.texts.specs.LineFeeds.{onto_first, pieces}
use Rattle.feed_reader.specs.Accepting.{AcceptsWithin}
use Rattle.feed_reader.specs.Feeds.{accepted, feed_head, head_of_lines, points_in, rows, rows_under}
use Rattle.feed_reader.specs.Rows.{row_of_line}
use Rattle.feed_reader.specs.declared.header.HeadFault.{HeadFault}
use Rattle.feed_reader.specs.declared.row.Row.{Row}
use Rattle.feed_reader.specs.declared.row.Row.TheVariants as row

onto_first-length : (b : ℕ) (ps : List (List ℕ)) → length (onto_first b ps) ≤ suc (length ps)
onto_first-length b [] = omega arith
onto_first-length b (p ∷ ps) = omega arith

pieces-length : (bytes : List ℕ) → length (pieces bytes) ≤ length bytes
pieces-length [] = omega arith
pieces-length (b ∷ bytes) = by (b == 10) (pieces-length bytes)
  where
    by : (feed : Bool) → length (pieces bytes) ≤ length bytes → length (if feed then [] ∷ pieces bytes else onto_first b (pieces bytes)) ≤ suc (length bytes)
    by true rest = omega (arith, rest)
    by false rest = let more = onto_first-length b (pieces bytes) in omega (arith, rest, more)

onto_whole-length : (b : ℕ) (bytes : List ℕ) → length (onto_whole b bytes) ≤ suc (length bytes)
onto_whole-length b [] = omega arith
onto_whole-length b (c ∷ bytes) = omega arith

whole_lines-length : (bytes : List ℕ) → length (whole_lines bytes) ≤ length bytes
whole_lines-length [] = omega arith
whole_lines-length (b ∷ bytes) = by (b == 10) (whole_lines-length bytes)
  where
    by : (feed : Bool) → length (whole_lines bytes) ≤ length bytes → length (if feed then b ∷ whole_lines bytes else onto_whole b (whole_lines bytes)) ≤ suc (length bytes)
    by true rest = omega (arith, rest)
    by false rest = let more = onto_whole-length b (whole_lines bytes) in omega (arith, rest, more)

counted-length : (bytes : List ℕ) → length (counted 0 bytes) ≤ min (length bytes) input_limit
counted-length bytes = by (nat_le (0 + length bytes) input_limit) refl
  where
    by : (all : Bool) → nat_le (0 + length bytes) input_limit ≡ all → length (if all then bytes else whole_lines (take (input_limit - 0) bytes)) ≤ min (length bytes) input_limit
    by true e = let low = leb-true (0 + length bytes) input_limit e in omega (arith, low)
    by false e =
        let whole = whole_lines-length (take (input_limit - 0) bytes) in
        let front = length-take (input_limit - 0) bytes in
        omega (arith, whole, front)

lines_of-length : (first : Bool) (ps : List (List ℕ)) → length (lines_of first ps) ≡ length ps
lines_of-length first [] = refl
lines_of-length first (p ∷ ps) = let rest = lines_of-length false ps in omega (arith, rest)

-- there are no more points than rows
pub points_in-length : (rs : List Row) → length (points_in rs) ≤ length rs
points_in-length [] = omega arith
points_in-length (row.Blank ∷ rs) = let rest = points_in-length rs in omega (arith, rest)
points_in-length (row.Point p ∷ rs) = let rest = points_in-length rs in omega (arith, rest)
points_in-length (row.Refused f ∷ rs) = let rest = points_in-length rs in omega (arith, rest)

pub accepts_within : AcceptsWithin
unfolding accepted rows feed_head
accepts_within schema bytes = by (head_of_lines schema (lines bytes))
  where
    by : (h : Result (List ℕ) HeadFault) → length (points_in (rows_under schema h (drop 1 (lines bytes)))) ≤ min (length bytes) input_limit
    by (Err f) = omega arith
    by (Ok places) =
        let later = drop 1 (lines bytes) in
        let points = points_in-length (map (row_of_line schema places) later) in
        let each = length-map later (row_of_line schema places) in
        let dropped = length-drop 1 (lines bytes) in
        let all = lines_of-length true (pieces (counted 0 bytes)) in
        let cut = pieces-length (counted 0 bytes) in
        let within = counted-length bytes in
        omega (arith, points, each, dropped, all, cut, within)
