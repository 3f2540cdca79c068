-- Counts that stand still at their end.
use Rattle.std.specs.Prelude.{ℕ, ◌+◌, ◌-◌, ◌^◌, min}

-- where a count stands still
abbrev pub last_count : ℕ
last_count = 2 ^ 64 - 1

-- the number after this one, where a count stands still at its end
abbrev pub next_count : ℕ → ℕ
next_count n = min (n + 1) last_count
