-- Places among items that stand in rising order of a number, their key.
use Rattle.std.specs.Prelude.{ℕ, zero, suc, ◌<◌, ◌≤◌, List, Option, None, All, AllPairs, length, take, drop, slice_get}

-- each key is less than all later ones
abbrev pub RisesBy : {T : Type 0} → (T → ℕ) → List T → Type 0
RisesBy {T} key items = AllPairs (λ (a b : T). key a < key b) items

-- the first place whose key is `from` or more, or the end where there is none
pub record IsPlace {T : Type 0} (key : T → ℕ) (from : ℕ) (items : List T) (index : ℕ) : Type 0 where
  pub within : index ≤ length items
  pub lesser : All (λ item. key item < from) (take index items)
  pub others : All (λ item. from ≤ key item) (drop index items)

-- the item just before a place, if there is one
abbrev pub item_before : {T : Type 0} → List T → ℕ → Option T
item_before items zero = None
item_before items (suc i) = slice_get items i
