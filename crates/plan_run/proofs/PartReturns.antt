-- Parts given back one after another, and what was counted of them.
use Rattle.std.proofs.Common.{◌≡◌, ℕ, List, [], ◌∷◌, ◌++◌, map, Result, Ok, Err, IfOk, sym, ◌∙◌, ap, subst}
use Rattle.std.specs.Result.{IsOkAnd}
use Rattle.std.proofs.lemmas.List.{map-append}
use Rattle.outer_io.specs.Faults.{Rose}
use Rattle.run_files.proofs.SourceReturns.{takes_more}
use Rattle.run_files.specs.GivingBack.{TakesSources}
use Rattle.run_files.specs.Outside.{PlaceSeen}

-- a list is mapped item by item
mapped_more : {A B : Type 0} (f : A → B) (items before : List A) (last : A) → items ≡ before ++ last ∷ [] → map f items ≡ map f before ++ f last ∷ []
mapped_more f items before last e = ap (map f) e ∙ map-append f before (last ∷ [])

-- one source more was given back, of a list of things that have one
pub returned_more : {P A : Type 0} (p : PlaceSeen P) (F : A → ℕ) (a b c : P) (items before : List A) (last : A) → items ≡ before ++ last ∷ [] → TakesSources p a b (map F before) → (Rose 0 (F last) → Rose (p.read_faults b) (p.read_faults c)) → (F last ≡ 0 → p.read_faults c ≡ p.read_faults b)
    → p.files c ≡ p.files b → p.opened c ≡ p.opened b → (p.write_faults c ≡ p.write_faults b) × (p.created c ≡ p.created b) → TakesSources p a c (map F items)
returned_more p F a b c items before last e so_far rose quiet files opened writing =
    subst (λ (counts : List ℕ). TakesSources p a c counts) (sym (mapped_more F items before last e)) (takes_more p a b c (map F before) (F last) so_far rose quiet files opened writing)

-- one more was counted, where there was memory for it
pub counted_more : {A C V E : Type 0} (items_of : V → List C) (f : A → C) (r r' : Result V E) (items before : List A) (last : A) → items ≡ before ++ last ∷ [] → IfOk r (λ v. items_of v ≡ map f before) → IfOk r' (λ all. IsOkAnd r (λ v. items_of all ≡ items_of v ++ f last ∷ [])) → IfOk r' (λ all. items_of all ≡ map f items)
counted_more items_of f r (Err e) items before last is so_far more = tt
counted_more items_of f (Err e) (Ok all) items before last is so_far more = absurd more
counted_more items_of f (Ok v) (Ok all) items before last is so_far more = more ∙ (ap (λ (cs : List _). cs ++ f last ∷ []) so_far ∙ sym (mapped_more f items before last is))

-- what was counted of one list, among all that was counted
pub counted_of : {R V A C E F : Type 0} (items_of : V → List C) (get : R → V) (f : A → C) (r : Result R E) (v : Result V F) (xs ys : List A) → xs ≡ ys → IfOk r (λ k. v ≡ Ok (get k)) → IfOk v (λ x. items_of x ≡ map f xs) → IfOk r (λ k. items_of (get k) ≡ map f ys)
counted_of items_of get f (Err e) v xs ys same is counted = tt
counted_of items_of get f (Ok k) v xs ys same is counted = subst (λ (w : Result _ _). IfOk w (λ x. items_of x ≡ map f xs)) is counted ∙ ap (map f) same

-- the sinks of two lists after each other, in a list that was empty
pub sinks_of_both : {A O : Type 0} (f : A → O) (room one both : List O) (xs ys asks finals : List A) → room ≡ [] → xs ≡ asks → ys ≡ finals → one ≡ room ++ map f xs → both ≡ one ++ map f ys → both ≡ map f asks ++ map f finals
sinks_of_both f room one both xs ys asks finals none first second e1 e2 =
    let one_is : one ≡ map f asks = e1 ∙ (ap (λ (r : List _). r ++ map f xs) none ∙ ap (map f) first) in
    e2 ∙ (ap (λ (o : List _). o ++ map f ys) one_is ∙ ap (λ (y : List _). map f asks ++ map f y) second)
