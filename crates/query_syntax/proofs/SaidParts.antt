-- The parts of a query that filters said, with one more.
use Rattle.std.proofs.Common.{◌≡◌, ℕ, zero, suc, ◌<◌, Bool, true, false, List, [], ◌∷◌, length, Some, refl, ap, ◌∙◌, arith}
use Rattle.std.specs.Prelude.{map, slice_set}
use Rattle.std.proofs.lemmas.List.{map-set}
use Rattle.query_syntax.specs.FilterParts.{said_if, sets_said}
use Rattle.query_syntax.specs.declared.query.Choice.{Choice}
use Rattle.query_syntax.proofs.Sets.{or_all}

pub sets_said-set : (said : List Bool) (sets : List Choice) (k : ℕ) (choice : Choice) → k < length said → k < length sets → sets_said (slice_set said k true) (slice_set sets k choice) ≡ slice_set (sets_said said sets) k (Some choice)
sets_said-set [] sets k choice h l = absurd (omega (arith, h))
sets_said-set (s ∷ said) [] k choice h l = absurd (omega (arith, l))
sets_said-set (s ∷ said) (set ∷ sets) zero choice h l = refl
sets_said-set (s ∷ said) (set ∷ sets) (suc k) choice h l = ap (λ more. said_if s set ∷ more) (sets_said-set said sets k choice (omega (arith, h)) (omega (arith, l)))

pub choices-set : (said : List Bool) (sets : List Choice) (k : ℕ) (choice : Choice) → k < length said → k < length sets → map or_all (sets_said said sets) ≡ sets → map or_all (sets_said (slice_set said k true) (slice_set sets k choice)) ≡ slice_set sets k choice
choices-set said sets k choice h l same =
    ap (map or_all) (sets_said-set said sets k choice h l)
    ∙ map-set or_all (sets_said said sets) k (Some choice)
    ∙ ap (λ (choices : List Choice). slice_set choices k choice) same
