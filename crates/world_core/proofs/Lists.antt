-- Laws of lists: the first item and the rest, an item in the middle, and a list of one item.
use Rattle.std.proofs.Common.{◌≡◌, ℕ, zero, suc, List, [], ◌∷◌, ◌++◌, All, length, length-append, sym, refl, ap, ◌∙◌, subst, arith}
use Rattle.std.proofs.Math.Seq.{get_or-append_seam}
use mathlib.Core.Option.{some, some-injective, some-ne-none}
use lib.ListN.{get_elem?}

-- equal lists have equal first items and equal rests
pub cons-parts : {A : Type 0} (a b : A) (xs ys : List A) → a ∷ xs ≡ b ∷ ys → (a ≡ b) × (xs ≡ ys)
cons-parts a b xs ys e = (cc, cc)

-- what holds of each item holds of one in the middle
pub All-middle : {A : Type 0} (P : A → Type 0) (xs : List A) (x : A) (ys : List A) → All P (xs ++ x ∷ ys) → P x
All-middle P xs x ys all = let l = length-append xs (x ∷ ys) in subst P (get_or-append_seam xs x ys x) (all (length xs) x (omega (arith, l)))

-- in a list of one item that item stands, at place 0
pub one_item : {A : Type 0} (items : List A) (x y : A) (place : ℕ) → items ≡ x ∷ [] → get_elem? items place ≡ some y → (place ≡ 0) × (x ≡ y)
one_item items x y place is at = found place (ap (λ l. get_elem? l place) (sym is) ∙ at)
  where
    found : (k : ℕ) → get_elem? (x ∷ []) k ≡ some y → (k ≡ 0) × (x ≡ y)
    found zero e = (refl, some-injective x y e)
    found (suc k) e = absurd (some-ne-none y (sym e))
