-- Laws of what a source gives by one read after another.
use Rattle.std.proofs.Common.{◌≡◌, ℕ, ◌≤◌, List, [], ◌++◌, length, take, Option, Some, None, refl, sym, ◌∙◌, ap, append_assoc}
use Rattle.std.proofs.Math.Seq.{take-append_seam}
use Rattle.std.proofs.lemmas.List.{append-nil, take_all}
use Rattle.outer_io.specs.Bytes.{IsAtEnd, Takes}
use Rattle.outer_io.specs.Told.{Told}

-- where nothing was read no bytes were taken
pub Takes-nil : (a : Option (List ℕ)) → Takes a a []
Takes-nil None = tt
Takes-nil (Some left) = refl

-- the bytes of one read after those of another were taken together
pub Takes-append : (a b c : Option (List ℕ)) (xs ys : List ℕ) → Takes a b xs → Takes b c ys → Takes a c (xs ++ ys)
Takes-append None b c xs ys p q = tt
Takes-append (Some left) None c xs ys p q = absurd p
Takes-append (Some left) (Some mid) None xs ys p q = absurd q
Takes-append (Some left) (Some mid) (Some rest) xs ys p q = p ∙ ap (λ zs. xs ++ zs) q ∙ sym (append_assoc xs ys rest)

-- what was taken up to the end is all there was
pub Takes-all : (a b : Option (List ℕ)) (xs : List ℕ) (m : ℕ) → Takes a b xs → IsAtEnd b → length xs ≤ m → Told a (λ all. xs ≡ take m all)
Takes-all None b xs m p end l = tt
Takes-all (Some left) None xs m p end l = absurd p
Takes-all (Some left) (Some rest) xs m p end l =
    let whole : left ≡ xs = p ∙ ap (λ zs. xs ++ zs) end ∙ append-nil xs in
    sym (ap (take m) whole ∙ take_all m xs l)

-- what was taken is the front of what there was
pub Takes-front : (a b : Option (List ℕ)) (xs : List ℕ) (m : ℕ) → Takes a b xs → length xs ≡ m → Told a (λ all. xs ≡ take m all)
Takes-front None b xs m p l = tt
Takes-front (Some left) None xs m p l = absurd p
Takes-front (Some left) (Some rest) xs m p l = sym (ap (λ n. take n left) (sym l) ∙ ap (take (length xs)) p ∙ take-append_seam xs rest)
