-- The first byte that passes a test, as `memchr` tells it: std's `position`.
use Rattle.std.proofs.Common.{◌≡◌, ℕ, ◌<◌, ◌≤◌, Bool, true, false, cond, ltb, List, length, Option, Some, None, refl, sym, ap, ◌∙◌, arith}
use Rattle.std.specs.List.{position, position_or_len}
use Rattle.std.proofs.lemmas.List.Sums.{position_or_len_is}
use Rattle.std.proofs.lemmas.Bool.{lt-ltb, false_from_ne_true}
use borrow.Author.Tests.{ltb-true}
use Rattle.memchr.specs.Find.{IsFirstByte}

-- what `position` answers, by whether its place is one of the list
taken : (b : Bool) (n : ℕ) → b ≡ true → cond b (Some n) None ≡ Some n
taken true n h = refl
taken false n h = cc

left : (b : Bool) (n : ℕ) → b ≡ false → cond b (Some n) None ≡ None
left true n h = cc
left false n h = refl

from_zero : (k : ℕ) → 0 ≤ k
from_zero k = omega arith

not_less : (m n : ℕ) → m ≡ n → m < n → ⊥
not_less m n same less = omega (arith, same, less)

pub first_place : (test : ℕ → Bool) (hay : List ℕ) (r : Option ℕ) → IsFirstByte test hay r → r ≡ position test hay
first_place test hay None nowhere =
    let at = position_or_len_is test hay (length hay) 0 (omega arith) (λ k below. false_from_ne_true _ (nowhere k (from_zero k) below)) (λ less. absurd (not_less _ _ refl less)) in
    sym (left (ltb (position_or_len test hay) (length hay)) (position_or_len test hay) (false_from_ne_true _ (λ yes. not_less _ _ at (ltb-true _ _ yes))))
first_place test hay (Some i) found =
    let at = position_or_len_is test hay i 0 (omega (arith, found.0.high)) (λ k below. false_from_ne_true _ (found.0.before k (from_zero k) below)) (λ less. found.1) in
    ap Some (sym at) ∙ sym (taken (ltb (position_or_len test hay) (length hay)) (position_or_len test hay) (lt-ltb _ _ (omega (arith, at, found.0.high))))
