-- The number of binary digits, by recursion.
use Rattle.std.proofs.Common.{ℕ, zero, suc, ◌+◌, ◌/◌, ◌^◌, ◌<◌, ◌≤◌, arith}
use Rattle.std.proofs.Math.Nat.{pow-suc}
use Rattle.std.proofs.lemmas.Grind.{pow_more}
use Rattle.probe_core.specs.Bits.{digits_within}

-- with enough fuel a number is below the power of its digits
pub below_pow-digits_within : (fuel n : ℕ) → n ≤ fuel → n < 2 ^ digits_within fuel n
below_pow-digits_within zero n within = omega arith
below_pow-digits_within (suc fuel) zero within = omega arith
below_pow-digits_within (suc fuel) (suc n) within =
    let half : suc n / 2 < 2 ^ digits_within fuel (suc n / 2) = below_pow-digits_within fuel (suc n / 2) (omega arith) in
    omega (arith, pow_more 2 (digits_within fuel (suc n / 2)))

-- no fewer digits hold a number
pub digits_within-least : (fuel n k : ℕ) → n < 2 ^ k → digits_within fuel n ≤ k
digits_within-least zero n k below = omega arith
digits_within-least (suc fuel) zero k below = omega arith
digits_within-least (suc fuel) (suc n) zero below = omega arith
digits_within-least (suc fuel) (suc n) (suc k) below =
    let half : suc n / 2 < 2 ^ k = omega (arith, pow-suc 2 k) in
    let rest : digits_within fuel (suc n / 2) ≤ k = digits_within-least fuel (suc n / 2) k half in
    omega arith

-- half of a number that k digits hold is held by one less
pub halved : (n k : ℕ) → 0 < n → n < 2 ^ k → digits_within (n / 2) (n / 2) + 1 ≤ k
halved n zero some below = omega arith
halved n (suc k) some below =
    let half : n / 2 < 2 ^ k = omega (arith, pow-suc 2 k) in
    let rest : digits_within (n / 2) (n / 2) ≤ k = digits_within-least (n / 2) (n / 2) k half in
    omega arith
