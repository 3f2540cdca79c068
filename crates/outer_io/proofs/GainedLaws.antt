-- Laws of what a sink gains by one text after another.
use Rattle.std.proofs.Common.{◌≡◌, ℕ, ◌+◌, min, List, [], ◌++◌, take, length, Option, Some, None, sym, ◌∙◌, ap, subst, append_assoc}
use Rattle.std.proofs.Math.Seq.{take-append_seam}
use Rattle.std.proofs.lemmas.List.{append-nil}
use Rattle.outer_io.specs.Bytes.{Gains, GainsPart}
use Rattle.outer_io.proofs.Fronts.{take-append_append}

-- a sink that is as before gained nothing
pub gains_none : (a : Option (List ℕ)) → Gains a a []
gains_none None = tt
gains_none (Some held) = ap (λ t. Some t) (sym (append-nil held))

-- one text after another is gained as one
pub gains_on : (a b c : Option (List ℕ)) (xs ys : List ℕ) → Gains a b xs → Gains b c ys → Gains a c (xs ++ ys)
gains_on None b c xs ys p q = tt
gains_on (Some held) b c xs ys p q =
    let after : c ≡ Some ((held ++ xs) ++ ys) = subst (λ (o : Option (List ℕ)). Gains o c ys) p q in
    after ∙ ap (λ t. Some t) (append_assoc held xs ys)

-- a text is a part, from the front, of one that goes on
pub part_whole : (a b : Option (List ℕ)) (xs zs : List ℕ) → Gains a b xs → GainsPart a b (xs ++ zs)
part_whole a b xs zs p = (length xs, subst (λ (t : List ℕ). Gains a b t) (sym (take-append_seam xs zs)) p)

-- a text, and then a part of the next, are a part of both and more
pub part_on : (a b c : Option (List ℕ)) (xs ys zs : List ℕ) → Gains a b xs → GainsPart b c ys → GainsPart a c (xs ++ (ys ++ zs))
part_on a b c xs ys zs p q =
    (length xs + min q.0 (length ys), subst (λ (t : List ℕ). Gains a c t) (sym (take-append_append xs ys zs q.0)) (gains_on a b c xs (take q.0 ys) p q.1))
