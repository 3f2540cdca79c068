-- Fronts of lists.
use Rattle.std.proofs.Common.{◌≡◌, ◌⊎◌, List, [], ◌∷◌, ◌++◌, inl, inr, refl}

-- a front of a list of one is empty or all of it
pub one_front : {A : Type 0} (x : A) (xs ys : List A) → x ∷ [] ≡ xs ++ ys → (xs ≡ []) ⊎ (xs ≡ x ∷ [])
one_front x [] ys e = inl refl
one_front x (y ∷ []) ys e = inr (cc)
one_front x (y ∷ z ∷ xs) ys e = cc
