-- Reading words from left to right: a value, or the first fault and the number of its word.
use Rattle.std.specs.Prelude.{◌≡◌, ℕ, if◌then◌else◌, List, [], ◌∷◌, Option, Some, None, Result, Ok, Err}
use Rattle.cube_view.specs.Limits.{is_between}
use Rattle.cube_view.specs.Results.{◌>>=◌}
use Rattle.texts.specs.Decimals.{decimal_value}
use Rattle.query_syntax.specs.declared.fault.QueryFault.{QueryFault}
use Rattle.query_syntax.specs.declared.fault.QueryFault.TheVariants.{MissingWord, BadNumber, OutOfRange}
use Rattle.query_syntax.specs.declared.fault.WordFault.{WordFault}

-- the fault, at the word of that number
abbrev pub fault_at : {A : Type 0} → QueryFault → ℕ → Result A WordFault
fault_at fault n = Err (record { fault = fault; word = n })

-- what there is, or else the fault, at the word of that number
abbrev pub or_fault : {A : Type 0} → Option A → QueryFault → ℕ → Result A WordFault
or_fault None fault n = fault_at fault n
or_fault (Some x) fault n = Ok x

-- What a function returned, seen by view, is what reading gives
abbrev pub GivesRead : {X Y : Type 0} → (X → Y) → Result X WordFault → Result Y WordFault → Type 0
GivesRead view (Ok x) read = read ≡ Ok (view x)
GivesRead view (Err e) read = read ≡ Err e

-- the first of the words, of which it is number n, and the words after it
abbrev pub word_at : ℕ → List (List ℕ) → Result (List ℕ × List (List ℕ)) WordFault
word_at n [] = fault_at MissingWord n
word_at n (word ∷ words) = Ok (word, words)

-- the number that the word writes, which is one from low to high
unfoldable pub number_of : ℕ → ℕ → ℕ → List ℕ → Result ℕ WordFault
number_of low high n word = do
  value ← or_fault (decimal_value word) BadNumber n
  if is_between low high value then Ok value else fault_at OutOfRange n

-- the number that the first of the words writes, and the words after it
unfoldable pub number_at : ℕ → ℕ → ℕ → List (List ℕ) → Result (ℕ × List (List ℕ)) WordFault
number_at low high n words = do
  word ← word_at n words
  value ← number_of low high n word.0
  Ok (value, word.1)
