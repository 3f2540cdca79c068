-- What is left of a run's replies.
use Rattle.std.specs.Prelude.{◌≡◌, ℕ, List, ◌++◌, Option, Some, option_map}
use Rattle.outer_io.specs.Told.{Told}

-- the bytes that are held, and then those that the source has left, where it tells them
abbrev pub held_and_left : {S : Type 0} → (S → Option (List ℕ)) → S → List ℕ → Option (List ℕ)
held_and_left left source held = option_map (λ more. held ++ more) (left source)

-- bytes that were told are told still, and are the same
abbrev pub KeepsRest : Option (List ℕ) → Option (List ℕ) → Type 0
KeepsRest before after = Told before (λ rest. after ≡ Some rest)
