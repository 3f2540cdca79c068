-- What the calls of a view find.
use Rattle.std.specs.Prelude.{◌≡◌, ℕ, ◌+◌, ◌*◌, ◌<◌, ◌≤◌, List, length, map, Option, MatchOption}
use Rattle.std.specs.List.{range_with_len}
use Rattle.cube_view.specs.Bag.{amount}
use Rattle.cube_view.specs.Places.{is_below, is_below_from, is_before}
use Rattle.cube_view.specs.Points.{Point}
use Rattle.cube_view.specs.declared.address.Address.{Address}
use Rattle.cube_view.specs.declared.schema.Schema.{Schema}

-- there is an answer exactly where the amount is above 0
abbrev pub SomeIfAny : {A : Type 0} → Option A → ℕ → Type 0
SomeIfAny answer n = MatchOption answer (n ≡ 0) (λ _. 0 < n)

-- there is an answer exactly where the list has a spot under the address and the label
abbrev pub SomeIfBelow : {A : Type 0} → Schema → Address → ℕ → Option A → List Point → Type 0
SomeIfBelow schema address label answer h = SomeIfAny answer (amount (is_below schema address label) h)

-- the least label from the first on under which the list has a spot, or None where there is none
abbrev pub IsNextLabel : Schema → Address → ℕ → Option ℕ → List Point → Type 0
IsNextLabel schema address first answer h = MatchOption answer (amount (is_below_from schema address first) h ≡ 0)
    (λ l. (first ≤ l) × (0 < amount (is_below schema address l) h) × ((k : ℕ) → first ≤ k → k < l → amount (is_below schema address k) h ≡ 0))

-- how much the list has under the address in bins less than each of n ends: `from`, `from + wide` and so on
abbrev pub totals_before : Schema → Address → ℕ → ℕ → ℕ → List Point → List ℕ
totals_before schema address from wide n h = map (λ k. amount (is_before schema address (from + k * wide)) h) (range_with_len 0 n)

-- the totals are those of the list, as many as there was place for
abbrev pub AreTotals : Schema → Address → ℕ → ℕ → List ℕ → List ℕ → List Point → Type 0
AreTotals schema address from wide place totals h = totals ≡ totals_before schema address from wide (length place) h
