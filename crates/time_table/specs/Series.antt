-- How many records fell before each of some ends that rise by equal steps, and how a pass over the rows tells it.
use Rattle.std.specs.Prelude.{◌≡◌, ℕ, ◌+◌, ◌-◌, ◌*◌, ◌^◌, ◌<◌, ◌≤◌, min, List, length, map, take, slice_index}
use Rattle.std.specs.List.{range_with_len}
use Rattle.probe_core.specs.Bits.{bits}
use Rattle.probe_core.specs.Places.{IsPlace}
use Rattle.time_table.specs.declared.row.Row.{Row}
use Rattle.time_table.specs.declared.series.Ends.{Ends}
use Rattle.time_table.specs.Counts.{BinCounts, count_before}
use Rattle.time_table.specs.Totals.{last_total, row_bin}

-- how many records fell into bins less than each of n ends: `from`, `from + wide` and so on
abbrev pub each_before : BinCounts → ℕ → ℕ → ℕ → List ℕ
each_before m from wide n = map (λ k. count_before m (from + k * wide)) (range_with_len 0 n)

-- at most how many steps that takes where there are so many bins: the less of n searches, and of a search and a look at
-- each bin
abbrev pub each_cost : ℕ → ℕ → ℕ
each_cost n bins = min (n * (1 + bits bins)) (1 + bits bins + bins)

-- There is a place for the total of each end that is left, and the ends are numbers of 64 bits.
pub record HaveRoom (ends : Ends) (totals : List ℕ) : Type 0 where
  pub within : ends.done ≤ length totals
  pub small : ends.end + (length totals - ends.done) * ends.wide < 2 ^ 64

-- the totals of the ends that are done are what f gives at them
pub record AreTold (f : ℕ → ℕ) (from : ℕ) (ends : Ends) (totals : List ℕ) : Type 0 where
  pub next : ends.end ≡ from + ends.done * ends.wide
  pub told : (k : ℕ) → k < ends.done → slice_index totals k ≡ f (from + k * ends.wide)

-- the next end is the same or a later one
pub record GoOn (ends ends' : Ends) (totals totals' : List ℕ) : Type 0 where
  pub room : HaveRoom ends' totals'
  pub wide : ends'.wide ≡ ends.wide
  pub done : ends.done ≤ ends'.done
  pub end : ends.end ≤ ends'.end
  pub count : length totals' ≡ length totals

-- more totals are told, by what is known of f at the ends that were left
abbrev pub Tells : ((ℕ → ℕ) → ℕ → Type 0) → Ends → Ends → List ℕ → List ℕ → Type 0
Tells Knows ends ends' totals totals' = (f : ℕ → ℕ) (from : ℕ) → AreTold f from ends totals → (ends.done < length totals → (e : ℕ) → ends.end ≤ e → Knows f e) → AreTold f from ends' totals'

-- f is the total up to a bin, at an end that is not past the bin
abbrev pub KnowsBin : ℕ → ℕ → (ℕ → ℕ) → ℕ → Type 0
KnowsBin bin total f e = e ≤ bin → f e ≡ total

-- f is the total before the first row whose bin is the end or later, if there is such a row
abbrev pub KnowsRows : List Row → ℕ → (ℕ → ℕ) → ℕ → Type 0
KnowsRows rows before f e = (i : ℕ) → i < length rows → IsPlace row_bin e rows i → f e ≡ before + last_total 0 (take i rows)
