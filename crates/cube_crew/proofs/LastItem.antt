-- What is made of the items of a list, the last of which is taken first.
use Rattle.std.proofs.Common.{◌≡◌, List, [], ◌∷◌, ◌++◌, map, refl, sym, ap, ◌∙◌}

map-push : {A B : Type 0} (f : A → B) (xs : List A) (x : A) → map f (xs ++ x ∷ []) ≡ map f xs ++ f x ∷ []
map-push f [] x = refl
map-push f (y ∷ xs) x = ap (λ l. f y ∷ l) (map-push f xs x)

-- what was made of all items but the last, and then of the last, was made of all
pub map-last : {A B : Type 0} (f : A → B) (all xs : List A) (x : A) (made result : List B) (y : B) → all ≡ xs ++ x ∷ [] → made ≡ map f xs → y ≡ f x → result ≡ made ++ y ∷ [] → result ≡ map f all
map-last f all xs x made result y is made_is one result_is = result_is ∙ (λ i. made_is i ++ one i ∷ []) ∙ sym (map-push f xs x) ∙ ap (map f) (sym is)
