-- Results, one after another.
use Rattle.std.specs.Prelude.{Result, Ok, Err}

-- what comes after an answer, and the first fault where there is one
infixl 10 ◌>>=◌
abbrev pub ◌>>=◌ : {A B E : Type 0} → Result A E → (A → Result B E) → Result B E
(Ok a) >>= next = next a
(Err e) >>= next = Err e
