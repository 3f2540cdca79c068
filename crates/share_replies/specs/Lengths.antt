-- Files of more than 2^30 bytes, which are refused, and files of no more.
use Rattle.std.specs.Prelude.{ℕ, ◌<◌, ◌≤◌, ◌⊎◌, List, [], ◌∷◌, length, All}
use Rattle.outer_io.specs.Files.{Files, file_or_empty}
use Rattle.outer_io.specs.Lines.{input_limit}

-- one of the named files has more than 2^30 bytes
abbrev pub HasLongFile : Files → List (List ℕ) → Type 0
HasLongFile files [] = ⊥
HasLongFile files (name ∷ names) = (input_limit < length (file_or_empty files name)) ⊎ HasLongFile files names

-- each of them has at most as many
abbrev pub AreFilesShort : Files → List (List ℕ) → Type 0
AreFilesShort files names = All (λ name. length (file_or_empty files name) ≤ input_limit) names
