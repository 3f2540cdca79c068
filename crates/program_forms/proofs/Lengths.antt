-- Of words that are more or fewer than a form has nothing is made.
use Rattle.std.proofs.Common.{◌≡◌, ℕ, List, [], ◌∷◌, ◌∙◌, length, None, refl, sym, ap}
use Rattle.program_forms.specs.Forms.{form_of, of_two, of_three, of_four}

pub none_of_two : {A : Type 0} (make : List ℕ → List ℕ → A) (words : List (List ℕ)) → (length words ≡ 2 → ⊥) → None ≡ of_two make words
none_of_two make [] other = refl
none_of_two make (a ∷ []) other = refl
none_of_two make (a ∷ b ∷ []) other = absurd (other refl)
none_of_two make (a ∷ b ∷ c ∷ words) other = refl

pub none_of_three : {A : Type 0} (make : List ℕ → List ℕ → List ℕ → A) (words : List (List ℕ)) → (length words ≡ 3 → ⊥) → None ≡ of_three make words
none_of_three make [] other = refl
none_of_three make (a ∷ []) other = refl
none_of_three make (a ∷ b ∷ []) other = refl
none_of_three make (a ∷ b ∷ c ∷ []) other = absurd (other refl)
none_of_three make (a ∷ b ∷ c ∷ d ∷ words) other = refl

pub none_of_four : {A : Type 0} (make : List ℕ → List ℕ → List ℕ → List ℕ → A) (words : List (List ℕ)) → (length words ≡ 4 → ⊥) → None ≡ of_four make words
none_of_four make [] other = refl
none_of_four make (a ∷ []) other = refl
none_of_four make (a ∷ b ∷ []) other = refl
none_of_four make (a ∷ b ∷ c ∷ []) other = refl
none_of_four make (a ∷ b ∷ c ∷ d ∷ []) other = absurd (other refl)
none_of_four make (a ∷ b ∷ c ∷ d ∷ e ∷ words) other = refl

-- what begins with that verb is no form where nothing is made of what stands behind it
pub none_behind : {words : List (List ℕ)} {verb known : List ℕ} (names : List (List ℕ)) → verb ≡ known → words ≡ verb ∷ names → None ≡ form_of (known ∷ names) → None ≡ form_of words
none_behind names is words none = none ∙ sym (ap form_of (words ∙ ap (λ v. v ∷ names) is))
