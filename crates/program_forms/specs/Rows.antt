-- How many rows a generated feed has, as the word of a command line says it.
use Rattle.std.specs.Prelude.{ℕ, Bool, true, ◌==◌, nat_le, if◌then◌else◌, List, [], ◌∷◌, Option, Some, None, option_and_then}
use Rattle.texts.specs.Decimals.{decimal_value}

-- the most rows of a generated feed
abbrev pub most_generated_rows : ℕ
most_generated_rows = 100000

-- the word begins with a zero, or is empty
abbrev pub begins_with_zero : List ℕ → Bool
begins_with_zero [] = true
begins_with_zero (byte ∷ bytes) = byte == 48

-- the number, where it is not too large
abbrev pub small_enough : ℕ → Option ℕ
small_enough rows = if nat_le rows most_generated_rows then Some rows else None

-- the number of rows that the word writes: a decimal from 1 to the most, without leading zeros
abbrev pub generated_rows_of : List ℕ → Option ℕ
generated_rows_of word = if begins_with_zero word then None else option_and_then small_enough (decimal_value word)
