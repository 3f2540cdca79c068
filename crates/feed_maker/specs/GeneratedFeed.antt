-- The generated feed: a header, and rows whose fields are bits of a generator's states.
use Rattle.std.specs.Prelude.{ℕ, zero, suc, ◌+◌, ◌*◌, ◌/◌, ◌%◌, ◌^◌, List, [], ◌∷◌, ◌++◌, codes}
use Rattle.std.specs.Fmt.{decimal}

-- the generator's state after this one
abbrev pub next_state : ℕ → ℕ
next_state s = (6364136223846793005 * s + 1442695040888963407) % 2 ^ 64

-- the names of the columns
abbrev pub generated_columns : List ℕ
generated_columns = codes "x,y,kind,time"

-- the row of a state: x, y, a letter from a to d and the time, with a line feed
abbrev pub generated_row : ℕ → List ℕ
generated_row s = decimal (s / 2 ^ 54) ++ (44 ∷ (decimal (s / 2 ^ 44 % 1024) ++ (44 ∷ (97 + s / 2 ^ 42 % 4) ∷ 44 ∷ (decimal (s / 2 ^ 32 % 1024) ++ (10 ∷ [])))))

-- so many rows after a state; each takes one step first
abbrev pub generated_rows : ℕ → ℕ → List ℕ
generated_rows s zero = []
generated_rows s (suc rows) = generated_row (next_state s) ++ generated_rows (next_state s) rows

-- the feed of so many rows from a state: the header and the rows, each with a line feed
abbrev pub generated_feed : ℕ → ℕ → List ℕ
generated_feed s rows = generated_columns ++ (10 ∷ generated_rows s rows)
