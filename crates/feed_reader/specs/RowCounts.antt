-- How many rows are of each kind, and which are the first that are refused.
use Rattle.std.specs.Prelude.{ℕ, ◌+◌, Bool, true, false, List, [], ◌∷◌, ◌++◌, length, take, count_by, Option}
use Rattle.outer_io.specs.declared.cutter.CutFault.{CutFault}
use Rattle.feed_reader.specs.Feeds.{points_in}
use Rattle.feed_reader.specs.declared.counts.FeedCounts.{FeedCounts}
use Rattle.feed_reader.specs.declared.refusal.Refusal.{Refusal}
use Rattle.feed_reader.specs.declared.row.Row.{Row}
use Rattle.feed_reader.specs.declared.row.Row.TheVariants as row

-- the row is blank
abbrev pub is_blank_row : Row → Bool
is_blank_row row.Blank = true
is_blank_row (row.Point p) = false
is_blank_row (row.Refused f) = false

-- the row is refused
abbrev pub is_refused_row : Row → Bool
is_refused_row row.Blank = false
is_refused_row (row.Point p) = false
is_refused_row (row.Refused f) = true

-- how many of the rows are accepted
abbrev pub count_accepted : List Row → ℕ
count_accepted rows = length (points_in rows)

-- how many of the rows are blank
abbrev pub count_blank : List Row → ℕ
count_blank rows = count_by is_blank_row rows

-- how many of the rows are refused
abbrev pub count_refused : List Row → ℕ
count_refused rows = count_by is_refused_row rows

-- the refusals among the rows, whose lines are numbered from `line` on
abbrev pub refusals_from : ℕ → List Row → List Refusal
refusals_from line [] = []
refusals_from line (row.Blank ∷ rows) = refusals_from (line + 1) rows
refusals_from line (row.Point p ∷ rows) = refusals_from (line + 1) rows
refusals_from line (row.Refused f ∷ rows) = record { line = line; fault = f } ∷ refusals_from (line + 1) rows

-- how many refusals of a feed are kept
abbrev pub kept_refusals : ℕ
kept_refusals = 5

-- the first refusals among the rows, whose lines are numbered from `line` on
abbrev pub first_refusals : ℕ → List Row → List Refusal
first_refusals line rows = take kept_refusals (refusals_from line rows)

-- the refusals once they keep one more, if there are not enough
abbrev pub having_kept : List Refusal → Refusal → List Refusal
having_kept first refusal = take kept_refusals (first ++ refusal ∷ [])

-- what a feed was given: the rows of its lines after the first, and the fault that ended it
pub record FeedRows : Type 0 where
  pub rows : List Row
  pub fault : Option CutFault

-- what is counted of it, with its lines numbered from the first line of the file on
abbrev pub counts_of_rows : FeedRows → FeedCounts
counts_of_rows feed = record { accepted = count_accepted feed.rows; blank = count_blank feed.rows; refused = count_refused feed.rows; first = first_refusals 2 feed.rows; fault = feed.fault }
