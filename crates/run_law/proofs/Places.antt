-- What stands in a list of which one element is replaced.
use Rattle.std.proofs.Common.{◌≡◌, ◌≢◌, ℕ, zero, suc, List, [], ◌∷◌, set, Some, refl, ap}
use Rattle.std.specs.Prelude.{slice_get}
use Rattle.std.proofs.lemmas.Option.{none-some}

pub set_at_own : {X : Type 0} (xs : List X) (k : ℕ) (x y : X) → slice_get xs k ≡ Some x → slice_get (set xs k y) k ≡ Some y
set_at_own [] k x y at = absurd (none-some x at)
set_at_own (z ∷ xs) zero x y at = refl
set_at_own (z ∷ xs) (suc k) x y at = set_at_own xs k x y at

pub set_at_other : {X : Type 0} (xs : List X) (k j : ℕ) (y : X) → j ≢ k → slice_get (set xs k y) j ≡ slice_get xs j
set_at_other [] k j y apart = refl
set_at_other (z ∷ xs) zero zero y apart = absurd (apart refl)
set_at_other (z ∷ xs) zero (suc j) y apart = refl
set_at_other (z ∷ xs) (suc k) zero y apart = refl
set_at_other (z ∷ xs) (suc k) (suc j) y apart = set_at_other xs k j y (λ e. apart (ap suc e))
