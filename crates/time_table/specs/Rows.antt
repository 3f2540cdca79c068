-- The rows of a table as a list: each bin with its count.
use Rattle.std.specs.Prelude.{ℕ, ◌+◌, ◌<◌, ◌≤◌, ◌^◌, List, [], ◌∷◌, sum_by}

-- rows whose bins have 32 bits and rise from a number on, and whose counts have 64 bits and aren't 0
abbrev pub AreRows : ℕ → List (ℕ × ℕ) → Type 0
AreRows from [] = Unit {0}
AreRows from (e ∷ rows) = (from ≤ e.0) × (e.0 < 2 ^ 32) × (0 < e.1) × (e.1 < 2 ^ 64) × AreRows (e.0 + 1) rows

-- how much rows count together
abbrev pub row_total : List (ℕ × ℕ) → ℕ
row_total rows = sum_by (λ e. e.1) rows
