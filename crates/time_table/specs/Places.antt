-- Places among rows in rising order of bin.
use Rattle.std.specs.Prelude.{◌≡◌, ℕ, ◌+◌, ◌-◌, ◌<◌, ◌≤◌, ◌==◌, if◌then◌else◌, nat_lt, slice_index_or, List, [], ◌∷◌, ◌++◌, length, take, drop, map, All, unwrap_or}
use Rattle.std.specs.Ordering.{nat_cmp}
use Rattle.std.specs.FinMap.{find, put}
use Rattle.time_table.specs.declared.row.Row.{Row}
use Rattle.time_table.specs.Totals.{raised, lowered}

-- rows that begin with a row of the bin: the one that they have, or a new one with the total so far
abbrev pub with_first : ℕ → ℕ → List Row → List Row
with_first below bin [] = record { bin = bin; total = below } ∷ []
with_first below bin (row ∷ rows) = if row.bin == bin then row ∷ rows else record { bin = bin; total = below } ∷ row ∷ rows

-- the rows with a row of the bin at the index
abbrev pub with_row : ℕ → ℕ → ℕ → List Row → List Row
with_row index below bin rows = take index rows ++ with_first below bin (drop index rows)

-- rows without their first one, if that has as many records as are taken
abbrev pub without_first : ℕ → ℕ → List Row → List Row
without_first below n [] = []
without_first below n (row ∷ rows) = if row.total - below == n then rows else row ∷ rows

-- the rows without the one at the index, if that has as many records as are taken
abbrev pub without_spent : ℕ → ℕ → ℕ → List Row → List Row
without_spent index below n rows = take index rows ++ without_first below n (drop index rows)

-- the rows with n records more in a bin, where the total before them is `before`
abbrev pub added : ℕ → ℕ → ℕ → List Row → List Row
added before bin n [] = map (raised n) (with_first before bin [])
added before bin n (row ∷ rows) = if nat_lt row.bin bin then row ∷ added row.total bin n rows else map (raised n) (with_first before bin (row ∷ rows))

-- the rows with n records less in a bin, where the total before them is `before`
abbrev pub taken : ℕ → ℕ → ℕ → List Row → List Row
taken before bin n [] = []
taken before bin n (row ∷ rows) = if nat_lt row.bin bin then row ∷ taken row.total bin n rows else map (lowered n) (without_first before n (row ∷ rows))

-- how many records the entries have at a bin
abbrev pub count_at : ℕ → List (ℕ × ℕ) → ℕ
count_at bin es = unwrap_or (find nat_cmp bin es) 0

-- the entries without a bin
abbrev pub del : ℕ → List (ℕ × ℕ) → List (ℕ × ℕ)
del bin [] = []
del bin (e ∷ es) = if e.0 == bin then del bin es else e ∷ del bin es

-- the entries with n records more in a bin
abbrev pub more : ℕ → ℕ → List (ℕ × ℕ) → List (ℕ × ℕ)
more bin n es = put nat_cmp bin (count_at bin es + n) es

-- the entries with n records less in a bin
abbrev pub less : ℕ → ℕ → List (ℕ × ℕ) → List (ℕ × ℕ)
less bin n es = if count_at bin es == n then del bin es else put nat_cmp bin (count_at bin es - n) es

-- the rows with the amounts of a run more, each in its bin
abbrev pub added_run : List (ℕ × ℕ) → List Row → List Row
added_run [] rows = rows
added_run (a ∷ run) rows = added_run run (added 0 a.0 a.1 rows)

-- the entries with the amounts of a run more, each in its bin
abbrev pub more_run : List (ℕ × ℕ) → List (ℕ × ℕ) → List (ℕ × ℕ)
more_run [] es = es
more_run (a ∷ run) es = more_run run (more a.0 a.1 es)

-- the row of n records of a bin, unless the rows begin with one of the bin
abbrev pub new_row : ℕ → ℕ → ℕ → List Row → List Row
new_row before bin n [] = record { bin = bin; total = before + n } ∷ []
new_row before bin n (row ∷ rows) = if row.bin == bin then [] else record { bin = bin; total = before + n } ∷ []

-- The rows from one place to another have bins less than an end, and stand behind others, each with n records more.
pub record PutsLesser (bin_end n from to : ℕ) (rows old new : List Row) : Type 0 where
  pub within : to ≤ length rows
  pub same : new ++ map (raised n) (drop to rows) ≡ old ++ map (raised n) (drop from rows)
  pub lesser : All (λ row. row.bin < bin_end) old → All (λ row. row.bin < bin_end) new
  pub others : (d : Row) → to < length rows → bin_end ≤ (slice_index_or rows to d).bin
