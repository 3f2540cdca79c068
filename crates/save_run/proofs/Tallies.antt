-- Rows that are counted one after another.
use Rattle.std.proofs.Common.{◌≡◌, ℕ, ◌+◌, ◌≤◌, Bool, cond, List, [], ◌∷◌, ◌++◌, length, take, count_by, refl, sym, ◌∙◌, ap, arith, append-nil, add-zero}
use Rattle.std.proofs.lemmas.List.{length_push}
use Rattle.std.proofs.lemmas.List.Sums.{count_by-le-length, sum_by-append}
use Rattle.feed_reader.proofs.FeedLaws.{points_in-append}
use Rattle.feed_reader.proofs.FewPoints.{points_in-length}
use Rattle.feed_reader.proofs.RowLists.{first_more, take_twice}
use Rattle.feed_reader.specs.Feeds.{points_in}
use Rattle.feed_reader.specs.RowCounts.{count_accepted, count_blank, count_refused, first_refusals, is_blank_row, is_refused_row, kept_refusals, refusals_from}
use Rattle.feed_reader.specs.RowCounts.{having_kept}
use Rattle.feed_reader.specs.declared.row.Row.{Row}
use Rattle.feed_reader.specs.declared.row.Row.TheVariants as row
use Rattle.save_run.specs.Counting.{having_counted, tally_of}
use Rattle.save_run.specs.declared.tally.Tally.{Tally}

-- a row that is not refused leaves the first refusals
first_same : (line : ℕ) (rows : List Row) (row : Row) → refusals_from (line + length rows) (row ∷ []) ≡ [] → first_refusals line rows ≡ first_refusals line (rows ++ row ∷ [])
first_same line rows row none =
    sym (first_more line rows row ∙ ap (λ rs. take kept_refusals (first_refusals line rows ++ rs)) none ∙ take_twice kept_refusals (refusals_from line rows) [] ∙ ap (λ rs. take kept_refusals rs) (append-nil (refusals_from line rows)))

count_more : (p : Row → Bool) (rows : List Row) (row : Row) → count_by p rows + count_by p (row ∷ []) ≡ count_by p (rows ++ row ∷ [])
count_more p rows row = sym (sum_by-append (λ x. cond (p x) 1 0) rows (row ∷ []))

count_same : (p : Row → Bool) (rows : List Row) (row : Row) → count_by p (row ∷ []) ≡ 0 → count_by p rows ≡ count_by p (rows ++ row ∷ [])
count_same p rows row none = sym (add-zero (count_by p rows)) ∙ ap (λ n. count_by p rows + n) (sym none) ∙ count_more p rows row

points_same : (rows : List Row) (row : Row) → points_in (row ∷ []) ≡ [] → length (points_in rows) ≡ length (points_in (rows ++ row ∷ []))
points_same rows row none = ap length (sym (append-nil (points_in rows)) ∙ ap (λ ps. points_in rows ++ ps) (sym none) ∙ sym (points_in-append rows (row ∷ [])))

-- the tally of rows that counts one row more is that of all of them
pub tally_more : (rows : List Row) (line : ℕ) (row : Row) → line ≡ 2 + length rows → having_counted (tally_of rows) line row ≡ tally_of (rows ++ row ∷ [])
tally_more rows line row.Blank number =
    let accepted = points_same rows row.Blank refl in
    let blank = count_more is_blank_row rows row.Blank in
    let refused = count_same is_refused_row rows row.Blank refl in
    let first = first_same 2 rows row.Blank refl in
    λ i. record { accepted = accepted i; blank = blank i; refused = refused i; first = first i }
tally_more rows line (row.Point p) number =
    let accepted = sym (length_push (points_in rows) p) ∙ ap length (sym (points_in-append rows (row.Point p ∷ []))) in
    let blank = count_same is_blank_row rows (row.Point p) refl in
    let refused = count_same is_refused_row rows (row.Point p) refl in
    let first = first_same 2 rows (row.Point p) refl in
    λ i. record { accepted = accepted i; blank = blank i; refused = refused i; first = first i }
tally_more rows line (row.Refused f) number =
    let accepted = points_same rows (row.Refused f) refl in
    let blank = count_same is_blank_row rows (row.Refused f) refl in
    let refused = count_more is_refused_row rows (row.Refused f) in
    let first = ap (λ n. having_kept (first_refusals 2 rows) (record { line = n; fault = f })) number ∙ sym (first_more 2 rows (row.Refused f)) in
    λ i. record { accepted = accepted i; blank = blank i; refused = refused i; first = first i }

-- no count of a tally is larger than the number of its rows
pub few_counted : (rows : List Row) (tally : Tally) → tally ≡ tally_of rows → (tally.accepted ≤ length rows) × (tally.blank ≤ length rows) × (tally.refused ≤ length rows)
few_counted rows tally is =
    let accepted : tally.accepted ≡ count_accepted rows = ap (λ (t : Tally). t.accepted) is in
    let blank : tally.blank ≡ count_blank rows = ap (λ (t : Tally). t.blank) is in
    let refused : tally.refused ≡ count_refused rows = ap (λ (t : Tally). t.refused) is in (
      omega (arith, accepted, points_in-length rows),
      omega (arith, blank, count_by-le-length is_blank_row rows),
      omega (arith, refused, count_by-le-length is_refused_row rows),
    )
