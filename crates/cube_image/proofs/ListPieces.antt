-- A list that is put piece by piece.
use Rattle.std.proofs.Common.{◌≡◌, ℕ, ◌+◌, ◌<◌, List, [], ◌∷◌, ◌++◌, length, get_or, take, sym, ap, ◌∙◌, append_assoc}
use Rattle.std.proofs.lemmas.List.{append-nil, take_more}
use Rattle.std.proofs.lemmas.Grind.{flat_map-append}
use Rattle.std.specs.List.{flat_map}

-- the pieces of one item more are put
pub put_more : {X A : Type 0} (f : X → List A) (start out new : List A) (xs : List X) (i : ℕ) (d : X) → i < length xs → out ≡ start ++ flat_map f (take i xs) → new ≡ out ++ f (get_or xs i d) → new ≡ start ++ flat_map f (take (i + 1) xs)
put_more f start out new xs i d lt before put =
    put
    ∙ (ap (λ t. t ++ f (get_or xs i d)) before
    ∙ (append_assoc start (flat_map f (take i xs)) (f (get_or xs i d))
    ∙ ap (λ t. start ++ t) (ap (λ t. flat_map f (take i xs) ++ t) (sym (append-nil (f (get_or xs i d)))) ∙ (sym (flat_map-append f (take i xs) (get_or xs i d ∷ [])) ∙ ap (flat_map f) (sym (take_more xs i d lt))))))
