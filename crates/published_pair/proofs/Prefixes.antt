-- Prefixes of one list.
use Rattle.std.proofs.Common.{◌≡◌, ◌≤◌, List, [], ◌∷◌, ◌++◌, take, drop, length, refl, ap, sym, ◌∙◌, arith, append-nil, length-append}
use Rattle.std.proofs.lemmas.List.{take-append-drop}
use mathlib.Core.List.{IsPrefix as IsFront}
use Rattle.world_core.proofs.Prefixes.{IsPrefix-take}
use Rattle.world_core.specs.PairFact.{IsPrefix}

-- the book's prefixes and the machine's are the same
pub prefix_of : {A : Type 0} (xs ys : List A) → IsFront xs ys → IsPrefix xs ys
prefix_of xs ys p = (p.0, sym p.1)

-- of two prefixes of one list the shorter is one of the longer
pub prefix_shorter : {A : Type 0} (xs ys zs : List A) → IsPrefix xs zs → IsPrefix ys zs → length xs ≤ length ys → IsPrefix xs ys
prefix_shorter [] ys zs p q le = (ys, refl)
prefix_shorter (x ∷ xs) [] zs p q le = absurd (omega arith)
prefix_shorter (x ∷ xs) (y ∷ ys) [] p q le = absurd (cc (p.1))
prefix_shorter (x ∷ xs) (y ∷ ys) (z ∷ zs) p q le =
    let heads : x ≡ y = cc (p.1, q.1) in
    let rest = prefix_shorter xs ys zs (p.0, cc (p.1)) (q.0, cc (q.1)) (omega arith) in
    (rest.0, cc (heads, rest.1))

-- a prefix as long as the whole is the whole
pub prefix_whole : {A : Type 0} (xs ys : List A) → IsPrefix xs ys → length ys ≤ length xs → xs ≡ ys
prefix_whole [] [] p le = refl
prefix_whole [] (y ∷ ys) p le = absurd (omega arith)
prefix_whole (x ∷ xs) [] p le = absurd (cc (p.1))
prefix_whole (x ∷ xs) (y ∷ ys) p le =
    let rest = prefix_whole xs ys (p.0, cc (p.1)) (omega arith) in cc (p.1, rest)

-- two lists that are prefixes of each other are one
pub prefix_both : {A : Type 0} (xs ys : List A) → IsPrefix xs ys → IsPrefix ys xs → xs ≡ ys
prefix_both xs ys p q = prefix_whole xs ys p (let e = ap length q.1 in let l = length-append ys q.0 in omega (arith, e, l))

-- a list that another begins with is a prefix of it
pub taken_prefix : {A : Type 0} (xs ys : List A) → take (length xs) ys ≡ xs → IsPrefix xs ys
taken_prefix xs ys e = (drop (length xs) ys, sym (ap (λ l. l ++ drop (length xs) ys) (sym e) ∙ take-append-drop (length xs) ys))

-- all of a list is taken
pub take_same : {A : Type 0} (xs ys : List A) → xs ≡ ys → take (length xs) ys ≡ xs
take_same xs ys e = IsPrefix-take xs ys ([], sym e ∙ sym (append-nil xs))
