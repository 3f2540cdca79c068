-- Bytes split at the first at which a test passes.
use Rattle.std.proofs.Common.{◌≡◌, sym, subst, ℕ, zero, suc, ◌+◌, ◌<◌, ◌≤◌, Bool, true, false, List, [], ◌∷◌, ◌++◌, length, get_or, take, drop, Some, None, arith}
use Rattle.std.specs.List.{position, position_or_len}
use Rattle.std.proofs.lemmas.List.{take_all}
use Rattle.std.proofs.lemmas.List.Sums.{fails_before_first, passes_at_first, split_at_first}
use Rattle.std.proofs.lemmas.Bool.Decides.{nat_tests}

-- the test fails at each of the bytes
abbrev pub Fails : (ℕ → Bool) → List ℕ → Type 0
Fails p [] = Unit {0}
Fails p (b ∷ bytes) = (p b ≡ false) × Fails p bytes

fails_below : (p : ℕ → Bool) (n : ℕ) (xs : List ℕ) → ((k : ℕ) → k < n → k < length xs → p (get_or xs k 0) ≡ false) → Fails p (take n xs)
fails_below p zero xs h = tt
fails_below p (suc n) [] h = tt
fails_below p (suc n) (x ∷ xs) h = (h zero (omega arith) (omega arith), fails_below p n xs (λ k l m. h (suc k) (omega arith) (omega arith)))

front_fails : (p : ℕ → Bool) (xs : List ℕ) → Fails p (take (position_or_len p xs) xs)
front_fails p xs = fails_below p (position_or_len p xs) xs (λ k l m. fails_before_first p xs k 0 l)

-- so it does at all bytes where it passes at none
pub first_none : (p : ℕ → Bool) (xs : List ℕ) → None ≡ position p xs → Fails p xs
first_none p xs e =
    let h : length xs ≤ position_or_len p xs = grind (arith, nat_tests) in
    subst (Fails p) (take_all (position_or_len p xs) xs h) (front_fails p xs)

-- the first byte at which the test passes splits the bytes
pub first_some : (p : ℕ → Bool) (xs : List ℕ) (k : ℕ) → Some k ≡ position p xs
    → (k < length xs) × Fails p (take k xs) × (p (get_or xs k 0) ≡ true) × (xs ≡ take k xs ++ get_or xs k 0 ∷ drop (k + 1) xs)
first_some p xs k e =
    let n : ℕ = position_or_len p xs in
    let w : (k ≡ n) × (n < length xs) = grind (arith, nat_tests) in
    subst (λ j. (j < length xs) × Fails p (take j xs) × (p (get_or xs j 0) ≡ true) × (xs ≡ take j xs ++ get_or xs j 0 ∷ drop (j + 1) xs)) (sym w.0)
    (w.1, front_fails p xs, passes_at_first p xs 0 w.1, split_at_first p xs 0 w.1)
