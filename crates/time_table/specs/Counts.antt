-- What a table of time means: how many records fell into each bin, as a finite map.
use Rattle.std.specs.Prelude.{ℕ, ◌+◌, ◌-◌, ◌<◌, ◌≤◌, ◌==◌, if◌then◌else◌, nat_lt, unwrap_or, sum, sum_by, filter, All, AllPairs, List, [], ◌∷◌, Option, None, Some}
use Rattle.std.specs.Ordering.{nat_cmp}
use Rattle.std.specs.FinMap.{FinMap, get, insert, remove, values, entries}

-- a count for each bin into which records fell
abbrev pub BinCounts : Type 0
BinCounts = FinMap nat_cmp ℕ

-- no bin is there without a record
abbrev pub AllCounted : BinCounts → Type 0
AllCounted m = All (λ n. 0 < n) (values m)

-- how many records fell into a bin, 0 where it is not there
abbrev pub count_of : BinCounts → ℕ → ℕ
count_of m bin = unwrap_or (get m bin) 0

-- n records more in a bin
abbrev pub add_many : BinCounts → ℕ → ℕ → BinCounts
add_many m bin n = insert m bin (count_of m bin + n)

-- n records less in a bin, which goes with its last record
abbrev pub take_many : BinCounts → ℕ → ℕ → BinCounts
take_many m bin n = if count_of m bin == n then remove m bin else insert m bin (count_of m bin - n)

-- one record more in a bin
abbrev pub add_one : BinCounts → ℕ → BinCounts
add_one m bin = add_many m bin 1

-- one record less in a bin, which goes with its last record
abbrev pub take_one : BinCounts → ℕ → BinCounts
take_one m bin = take_many m bin 1

-- how many records there are
abbrev pub total_count : BinCounts → ℕ
total_count m = sum (values m)

-- how many records fell into bins less than bin_end
abbrev pub count_before : BinCounts → ℕ → ℕ
count_before m bin_end = sum_by (λ e. e.1) (filter (λ e. nat_lt e.0 bin_end) (entries m))

-- how much of a list of amounts, each with its bin, is in a bin
abbrev pub amount_at : ℕ → List (ℕ × ℕ) → ℕ
amount_at bin amounts = sum_by (λ a. if bin == a.0 then a.1 else 0) amounts

-- Amounts of which each is above 0, in rising order of bin, so that no bin stands twice.
pub record IsBinRun (run : List (ℕ × ℕ)) : Type 0 where
  pub some : All (λ a. 0 < a.1) run
  pub rises : AllPairs (λ a b. a.0 < b.0) run

-- how much the amounts of a list are together
abbrev pub run_total : List (ℕ × ℕ) → ℕ
run_total run = sum_by (λ a. a.1) run

-- the amounts of a list more, each in its bin
abbrev pub add_run : BinCounts → List (ℕ × ℕ) → BinCounts
add_run m [] = m
add_run m (a ∷ run) = add_run (add_many m a.0 a.1) run

-- the amounts of a list less, each in its bin, the last one first
abbrev pub take_run : BinCounts → List (ℕ × ℕ) → BinCounts
take_run m [] = m
take_run m (a ∷ run) = take_many (take_run m run) a.0 a.1

-- each amount of a list is there when it is taken, the last one first
abbrev pub CanTakeRun : BinCounts → List (ℕ × ℕ) → Type 0
CanTakeRun m [] = Unit {0}
CanTakeRun m (a ∷ run) = (a.1 ≤ count_of (take_run m run) a.0) × CanTakeRun m run

-- the first entry of a bin that is `from` or later
abbrev pub first_from : ℕ → List (ℕ × ℕ) → Option (ℕ × ℕ)
first_from from [] = None
first_from from (e ∷ es) = if nat_lt e.0 from then first_from from es else Some e
