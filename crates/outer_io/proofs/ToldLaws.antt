-- Laws of what is claimed where it is told.
use Rattle.std.proofs.Common.{◌≡◌, List, [], ◌++◌, Option, Some, None, refl, sym, ◌∙◌, ap, subst, append_assoc, IsSomeAnd}
use Rattle.outer_io.specs.Told.{Told}

-- of a value that is told, the claim holds
pub Told-some : {A : Type 0} (o : Option A) (x : A) (P : A → Type 0) → o ≡ Some x → Told o P → P x
Told-some o x P told h = subst (λ (v : Option _). Told v P) told h

-- what follows from a claim is claimed
pub Told-each : {A : Type 0} (o : Option A) (P Q : A → Type 0) → ((x : A) → P x → Q x) → Told o P → Told o Q
Told-each None P Q step h = tt
Told-each (Some x) P Q step h = step x h

-- two claims are claimed together
pub Told-both : {A : Type 0} (o : Option A) (P Q : A → Type 0) → Told o P → Told o Q → Told o (λ x. P x × Q x)
Told-both None P Q p q = tt
Told-both (Some x) P Q p q = (p, q)

-- a value that is told is that value
pub Told-same : {A : Type 0} (o : Option A) → Told o (λ x. o ≡ Some x)
Told-same None = tt
Told-same (Some x) = refl

-- what is told as before twice is told as before
pub Told-again : {A : Type 0} (a b c : Option A) → Told a (λ x. b ≡ Some x) → Told b (λ x. c ≡ Some x) → Told a (λ x. c ≡ Some x)
Told-again None b c p q = tt
Told-again (Some x) None c p q = cc
Told-again (Some x) (Some y) c p q = cc

-- a list that is told has no items before all of its items
pub Told-nil : {A : Type 0} (o : Option (List A)) → Told o (λ all. IsSomeAnd o (λ rest. all ≡ [] ++ rest))
Told-nil None = tt
Told-nil (Some xs) = refl

-- two stretches, one after the other, are before what is left after both
pub Told-append : {A : Type 0} (a b c : Option (List A)) (xs ys : List A) → Told a (λ all. IsSomeAnd b (λ rest. all ≡ xs ++ rest)) → Told b (λ all. IsSomeAnd c (λ rest. all ≡ ys ++ rest)) → Told a (λ all. IsSomeAnd c (λ rest. all ≡ (xs ++ ys) ++ rest))
Told-append None b c xs ys p q = tt
Told-append (Some all) None c xs ys p q = absurd p
Told-append (Some all) (Some mid) None xs ys p q = absurd q
Told-append (Some all) (Some mid) (Some rest) xs ys p q = p ∙ ap (λ zs. xs ++ zs) q ∙ sym (append_assoc xs ys rest)

-- a stretch after which nothing is left is all there was
pub Told-all : {A : Type 0} (a b : Option (List A)) (xs ys : List A) → Told a (λ all. IsSomeAnd b (λ rest. all ≡ xs ++ rest)) → Told b (λ rest. rest ≡ ys) → Told a (λ all. all ≡ xs ++ ys)
Told-all None b xs ys p q = tt
Told-all (Some all) None xs ys p q = absurd p
Told-all (Some all) (Some rest) xs ys p q = p ∙ ap (λ zs. xs ++ zs) q
