-- Two lists after each other, and what holds of their items.
use Rattle.std.proofs.Common.{All, List, [], ap, append-nil, arith, drop, get_or, length, length-append, refl, suc, sym, take, zero, ℕ, ◌++◌, ◌+◌, ◌<◌, ◌∙◌, ◌∷◌, ◌≡◌}
use Rattle.std.specs.Prelude.{Contains}
use Rattle.std.specs.List.{AllZip}
use Rattle.std.proofs.lemmas.List.{take_more, take-append-drop}
use Rattle.std.proofs.lemmas.List.Elements.{All-nil, All-cons, All-head, All-tail}

-- a list that goes on from another of the same length is that one
pub no_more : {A : Type 0} (xs ys later : List A) → xs ≡ ys ++ later → length xs ≡ length ys → xs ≡ ys
no_more xs ys [] is same = is ∙ append-nil ys
no_more xs ys (x ∷ later) is same = absurd (omega (arith, ap length is, length-append ys (x ∷ later), same))

-- a list with an item more is another
pub not_grown : {A : Type 0} (xs ys : List A) (x : A) → ys ≡ xs ++ x ∷ [] → ys ≡ xs → ⊥
not_grown xs ys x more same =
    let a = ap (λ (zs : List _). length zs) more ∙ length-append xs (x ∷ []) in
    let b = ap (λ (zs : List _). length zs) same in
    omega (arith, a, b)

-- what holds of each item of two lists holds of each one of either
pub All-front : {X : Type 0} (P : X → Type 0) (xs ys : List X) → All P (xs ++ ys) → All P xs
All-front P [] ys all = All-nil P
All-front P (x ∷ xs) ys all = All-cons P x xs (All-head P x (xs ++ ys) all) (All-front P xs ys (All-tail P x (xs ++ ys) all))

pub All-back : {X : Type 0} (P : X → Type 0) (xs ys : List X) → All P (xs ++ ys) → All P ys
All-back P [] ys all = all
All-back P (x ∷ xs) ys all = All-back P xs ys (All-tail P x (xs ++ ys) all)

-- two lists whose items go together, and two more items
pub AllZip-more : {A B : Type 0} (R : A → B → Type 0) (xs : List A) (ys : List B) (x : A) (y : B) → AllZip R xs ys → R x y → AllZip R (xs ++ x ∷ []) (ys ++ y ∷ [])
AllZip-more R [] [] x y all more = (more, tt)
AllZip-more R [] (b ∷ ys) x y all more = absurd all
AllZip-more R (a ∷ xs) [] x y all more = absurd all
AllZip-more R (a ∷ xs) (b ∷ ys) x y all more = (all.0, AllZip-more R xs ys x y all.1 more)

pub AllZip-length : {A B : Type 0} (R : A → B → Type 0) (xs : List A) (ys : List B) → AllZip R xs ys → length xs ≡ length ys
AllZip-length R [] [] all = refl
AllZip-length R [] (b ∷ ys) all = absurd all
AllZip-length R (a ∷ xs) [] all = absurd all
AllZip-length R (a ∷ xs) (b ∷ ys) all = ap (λ n. suc n) (AllZip-length R xs ys all.1)

-- what follows of the first of each two holds of the first list
pub AllZip-firsts : {A B : Type 0} (R : A → B → Type 0) (P : A → Type 0) → ((x : A) (y : B) → R x y → P x) → (xs : List A) (ys : List B) → AllZip R xs ys → All P xs
AllZip-firsts R P step [] [] all = All-nil P
AllZip-firsts R P step [] (b ∷ ys) all = absurd all
AllZip-firsts R P step (a ∷ xs) [] all = absurd all
AllZip-firsts R P step (a ∷ xs) (b ∷ ys) all = All-cons P a xs (step a b all.0) (AllZip-firsts R P step xs ys all.1)

-- one more of the names, which a loop has at its index
pub name_more : (names : List (List ℕ)) (i : ℕ) (item name : List ℕ) → i < length names → item ≡ get_or names i item → name ≡ item → take (i + 1) names ≡ take i names ++ name ∷ []
name_more names i item name lt is same = take_more names i item lt ∙ ap (λ n. take i names ++ n ∷ []) (sym (same ∙ is))

-- all names are those before one, it, and those behind it
pub name_split : (names : List (List ℕ)) (i : ℕ) (item name : List ℕ) → i < length names → item ≡ get_or names i item → name ≡ item → names ≡ (take i names ++ name ∷ []) ++ drop (i + 1) names
name_split names i item name lt is same = sym (take-append-drop (i + 1) names) ∙ ap (λ front. front ++ drop (i + 1) names) (name_more names i item name lt is same)

at_its_place : (m n : List ℕ) (k : ℕ) → k < length (m ∷ []) → get_or (m ∷ []) k n ≡ n → m ≡ n
at_its_place m n zero lt is = is
at_its_place m n (suc k) lt is = absurd (omega (arith, lt))

-- a name that stands in a list of one is that one
pub in_one : (m n : List ℕ) → Contains (m ∷ []) n → m ≡ n
in_one m n h = at_its_place m n h.0 h.1 h.2
