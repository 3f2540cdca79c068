-- The side of a tile, in finest tiles.
use Rattle.std.proofs.Common.{◌≡◌, ℕ, ◌+◌, ◌-◌, ◌*◌, ◌/◌, ◌%◌, ◌^◌, ◌<◌, ◌≤◌, ◌∙◌, ap, arith}
use Rattle.std.proofs.Math.Nat.{add-mul, mod-eq_of_lt, mod-lt, mul_assoc, mul-le-mul_right, pow-le-pow_right}
use Rattle.std.proofs.lemmas.Nat.{div-add-mod', pow-add}

pub side_positive : (k : ℕ) → 0 < 2 ^ k
side_positive k = pow-le-pow_right {n = 2} (omega arith) {i = 0} {j = k} (omega arith)

pub side_small : (k : ℕ) → k ≤ 20 → 2 ^ k ≤ 1048576
side_small k le = pow-le-pow_right {n = 2} (omega arith) {i = k} {j = 20} le

-- a shift to the left by few levels
pub shift_is : (k : ℕ) → k ≤ 20 → 1 * 2 ^ k % 4294967296 ≡ 2 ^ k
shift_is k le =
    let s = side_small k le in
    let m : 1 * 2 ^ k % 4294967296 ≡ 1 * 2 ^ k = mod-eq_of_lt (omega (arith, s)) in
    omega (arith, m)

-- a tile ends within the finest tiles
pub end_within : (depth z n : ℕ) → z ≤ depth → n < 2 ^ z → (n + 1) * 2 ^ (depth - z) ≤ 2 ^ depth
end_within depth z n le lt =
    let e : depth ≡ z + (depth - z) = omega (arith, le) in
    let whole : 2 ^ depth ≡ 2 ^ z * 2 ^ (depth - z) = ap (λ k. 2 ^ k) e ∙ pow-add 2 z (depth - z) in
    let more : n + 1 ≤ 2 ^ z = omega (arith, lt) in
    let m = mul-le-mul_right (2 ^ (depth - z)) more in
    omega (arith, whole, m)

pub begins_within : (depth z n : ℕ) → z ≤ depth → n < 2 ^ z → n * 2 ^ (depth - z) ≤ 2 ^ depth
begins_within depth z n le lt =
    let e = end_within depth z n le lt in
    let m = add-mul n 1 (2 ^ (depth - z)) in
    omega (arith, e, m)

-- the finest tiles that a tile holds, from its first on under the next tile's
pub in_side : (x n k : ℕ) → x / 2 ^ k ≡ n → (n * 2 ^ k ≤ x) × (x < (n + 1) * 2 ^ k)
in_side x n k e =
    let d = div-add-mod' x (2 ^ k) in
    let m = mod-lt x (side_positive k) in
    let s = ap (λ j. j * 2 ^ k) e in
    let a = add-mul n 1 (2 ^ k) in
    (omega (arith, d, s), omega (arith, d, s, m, a))

-- a tile of each side has a finest one
pub ends_after : (n k : ℕ) → n * 2 ^ k < (n + 1) * 2 ^ k
ends_after n k = let p = side_positive k in let a = add-mul n 1 (2 ^ k) in omega (arith, p, a)

-- a quadrant's side is half of the tile's
pub half_side : (depth z : ℕ) → z < depth → 2 ^ (depth - z) ≡ 2 * 2 ^ (depth - (z + 1))
half_side depth z lt =
    let e : depth - z ≡ 1 + (depth - (z + 1)) = omega (arith, lt) in
    ap (λ k. 2 ^ k) e ∙ pow-add 2 1 (depth - (z + 1))

-- a quadrant is within the tile
pub half_within : (n b p : ℕ) → b < 2 → (n * (2 * p) ≤ (2 * n + b) * p) × ((2 * n + b + 1) * p ≤ (n + 1) * (2 * p))
half_within n b p lt =
    let low : n * 2 ≤ 2 * n + b = omega arith in
    let high : 2 * n + b + 1 ≤ (n + 1) * 2 = omega (arith, lt) in
    let l = mul-le-mul_right p low in
    let h = mul-le-mul_right p high in
    let a = mul_assoc n 2 p in
    let c = mul_assoc (n + 1) 2 p in
    (omega (arith, l, a), omega (arith, h, c))

-- where there are at most 20 levels both fit 32 bits
pub begins_fit : (depth z n : ℕ) → depth ≤ 20 → z ≤ depth → n < 2 ^ z → n * (1 * 2 ^ (depth - z) % 4294967296) < 4294967296
begins_fit depth z n few le lt =
    let s = ap (λ p. n * p) (shift_is (depth - z) (omega (arith, few))) in
    let b = begins_within depth z n le lt in
    let w = side_small depth few in
    omega (arith, s, b, w)

pub ends_fit : (depth z n : ℕ) → depth ≤ 20 → z ≤ depth → n < 2 ^ z → (n + 1) * (1 * 2 ^ (depth - z) % 4294967296) < 4294967296
ends_fit depth z n few le lt =
    let s = ap (λ p. (n + 1) * p) (shift_is (depth - z) (omega (arith, few))) in
    let e = end_within depth z n le lt in
    let w = side_small depth few in
    omega (arith, s, e, w)
