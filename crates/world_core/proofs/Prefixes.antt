-- Prefixes of lists.
use Rattle.std.proofs.Common.{◌≡◌, ◌≤◌, List, [], ◌++◌, length, length-append, take, sym, ap, ◌∙◌, arith, append_assoc}
use Rattle.std.proofs.Math.Seq.{take-append_seam}
use Rattle.std.proofs.lemmas.List.{append-nil}
use Rattle.world_core.specs.PairFact.{IsPrefix}

pub IsPrefix-itself : {A : Type 0} (xs : List A) → IsPrefix xs xs
IsPrefix-itself xs = ([], sym (append-nil xs))

pub IsPrefix-then : {A : Type 0} (xs ys zs : List A) → IsPrefix xs ys → IsPrefix ys zs → IsPrefix xs zs
IsPrefix-then xs ys zs a b = (a.0 ++ b.0, b.1 ∙ (ap (λ l. l ++ b.0) a.1 ∙ append_assoc xs a.0 b.0))

pub IsPrefix-length : {A : Type 0} (xs ys : List A) → IsPrefix xs ys → length xs ≤ length ys
IsPrefix-length xs ys a = let l = length-append xs a.0 in let m = ap length a.1 in omega (arith, l, m)

pub IsPrefix-take : {A : Type 0} (xs ys : List A) → IsPrefix xs ys → take (length xs) ys ≡ xs
IsPrefix-take xs ys a = ap (take (length xs)) a.1 ∙ take-append_seam xs a.0
