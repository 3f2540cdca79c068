-- Laws of binary digits. There is no definition here.
use Rattle.std.proofs.Common.{ℕ, ◌+◌, ◌/◌, ◌^◌, ◌<◌, ◌≤◌, arith}
use Rattle.probe_core.specs.Bits.{bits}
use Rattle.probe_core.proofs.Digits.{below_pow-digits_within, digits_within-least, halved}

-- a number has its digits ..
pub below_pow-bits : (n : ℕ) → n < 2 ^ bits n
unfolding bits
below_pow-bits n = below_pow-digits_within n n (omega arith)

-- .. and no fewer hold it
pub bits-least : (n k : ℕ) → n < 2 ^ k → bits n ≤ k
unfolding bits
bits-least n k below = digits_within-least n n k below

-- a larger number has as many digits, or more
pub bits-mono : (m n : ℕ) → m ≤ n → bits m ≤ bits n
bits-mono m n le = let held : n < 2 ^ bits n = below_pow-bits n in bits-least m (bits n) (omega arith)

-- half of a number has a digit less
pub bits-half : (n : ℕ) → 0 < n → bits (n / 2) + 1 ≤ bits n
unfolding bits
bits-half n some = halved n (bits n) some (below_pow-bits n)
