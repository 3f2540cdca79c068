-- What is claimed of a value that may not be told.
use Rattle.std.specs.Prelude.{Option, MatchOption, ⊤}

-- the claim holds of the value, where it is told; nothing is claimed where it is not
abbrev pub Told : {A : Type 0} → Option A → (A → Type 0) → Type 0
Told o P = MatchOption o ⊤ P
