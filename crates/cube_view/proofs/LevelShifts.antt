-- Coordinates that are shifted to a level, and the two bits of a label.
use Rattle.std.proofs.Common.{◌≡◌, ℕ, ◌+◌, ◌-◌, ◌*◌, ◌/◌, ◌%◌, ◌^◌, ◌<◌, ◌≤◌, sym, ◌∙◌, ap, arith}
use Rattle.std.proofs.Math.Nat.{div-add-mod}
use Rattle.std.proofs.lemmas.Nat.{shr-shr}
use Rattle.cube_view.specs.Places.{shifted, bit_at}

-- a coordinate at the next level is twice that of the level, and its bit
pub bit_more : (z i n : ℕ) → i < z → 2 * shifted z i n + bit_at z (i + 1) n ≡ shifted z (i + 1) n
bit_more z i n lt =
    let j = z - (i + 1) in
    let e : z - i ≡ j + 1 = omega arith in
    let m : n / 2 ^ (z - i) ≡ n / 2 ^ (j + 1) = ap (λ k. n / 2 ^ k) e in
    let s : n / 2 ^ (j + 1) ≡ n / 2 ^ j / 2 = sym (shr-shr n j 1) in
    let d = div-add-mod (n / 2 ^ j) 2 in
    omega (arith, m, s, d)

-- a coordinate at a level above that of the tile
pub shifted_up : (depth z i n m : ℕ) → i ≤ z → z ≤ depth → shifted depth z n ≡ m → shifted depth i n ≡ shifted z i m
shifted_up depth z i n m le deep at =
    let e : depth - i ≡ depth - z + (z - i) = omega arith in
    ap (λ k. n / 2 ^ k) e ∙ (sym (shr-shr n (depth - z) (z - i)) ∙ ap (λ k. k / 2 ^ (z - i)) at)

-- the lower bit of a label is that of x
pub low_bit : (a b : ℕ) → a < 2 → (2 * b + a) % 2 ≡ a
low_bit a b lt = omega arith

-- and the higher one that of y
pub high_bit : (a b : ℕ) → a < 2 → (2 * b + a) / 2 ≡ b
high_bit a b lt = omega arith

-- both bits of a label
pub bits_of_label : (l b bx tx : ℕ) → bx < 2 → b < 2 → 2 * b + bx ≡ l → (2 * tx + l % 2 ≡ 2 * tx + bx) × (2 * tx + l / 2 ≡ 2 * tx + b)
bits_of_label l b bx tx low high is = (omega (arith, low, high, is), omega (arith, low, high, is))

-- a shift by nothing
pub by_one : (n : ℕ) → n / 2 ^ 0 ≡ n
by_one n = omega arith
