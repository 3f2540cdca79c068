-- What holds between what is published and what was shown of it.
use Rattle.std.specs.Prelude.{◌≡◌, List, ◌++◌, All}

-- the second list is the first and then some more
abbrev pub IsPrefix : {A : Type 0} → List A → List A → Type 0
IsPrefix {A} front whole = (more : List A) × (whole ≡ front ++ more)

-- each of the others is a prefix of the list
abbrev pub pair_fact : {A : Type 0} → List A → List (List A) → Type 0
pair_fact list others = All (λ other. IsPrefix other list) others
