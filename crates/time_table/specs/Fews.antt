-- A few rows as a table stores them in its own bytes.
use Rattle.std.specs.Prelude.{ℕ, if◌then◌else◌, nat_lt, List, [], ◌∷◌}
use Rattle.time_table.specs.declared.row.Row.{Row}
use Rattle.time_table.specs.declared.few.Few.{Few}
use Rattle.time_table.specs.declared.few.Few.TheVariants.{No, One, Two, Three}

-- the rows of each form, in order
abbrev pub few_rows : Few → List Row
few_rows No = []
few_rows (One a) = a ∷ []
few_rows (Two a b) = a ∷ b ∷ []
few_rows (Three a b c) = a ∷ b ∷ c ∷ []

-- the total of the last of the rows before the first bin that is `e` or later, or `before` where there is none
abbrev pub below_from : ℕ → ℕ → List Row → ℕ
below_from before e [] = before
below_from before e (row ∷ rows) = if nat_lt row.bin e then below_from row.total e rows else before
