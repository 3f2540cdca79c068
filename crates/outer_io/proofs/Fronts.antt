-- The front of a text that is put together of others.
use Rattle.std.proofs.Common.{◌≡◌, ℕ, ◌+◌, min, List, ◌++◌, take, length, ◌∙◌, ap, arith}
use Rattle.std.proofs.Math.Seq.{take-append-add}
use Rattle.std.proofs.lemmas.List.{take-append-le, take_min}

-- k bytes of ys after xs, in a text that goes on
pub take-append_append : (xs ys zs : List ℕ) (k : ℕ) → take (length xs + min k (length ys)) (xs ++ (ys ++ zs)) ≡ xs ++ take k ys
take-append_append xs ys zs k =
    take-append-add xs (ys ++ zs) (min k (length ys))
    ∙ ap (λ t. xs ++ t) (take-append-le (min k (length ys)) ys zs (omega arith) ∙ take_min k ys)
