-- Texts that are appended piece by piece.
use Rattle.std.proofs.Common.{◌≡◌, List, ◌++◌, Result, Ok, Err, ◌∙◌, ap, append_assoc}
use Rattle.std.specs.Prelude.{OnOk}

-- what was appended is the same text
pub appended_as : {A T E : Type 0} (r : Result T E) (before after one same : List A) → one ≡ same → OnOk r (after ≡ before ++ one) → OnOk r (after ≡ before ++ same)
appended_as (Ok x) before after one same is so = so ∙ ap (λ b. before ++ b) is
appended_as (Err e) before after one same is so = tt

-- a second text was appended behind a first
pub appended_then : {A T E : Type 0} (r : Result T E) (before mid after one two : List A) → mid ≡ before ++ one → OnOk r (after ≡ mid ++ two) → OnOk r (after ≡ before ++ (one ++ two))
appended_then (Ok x) before mid after one two first so = so ∙ (ap (λ m. m ++ two) first ∙ append_assoc before one two)
appended_then (Err e) before mid after one two first so = tt
