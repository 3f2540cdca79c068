-- Laws of path numbers.
use Rattle.std.proofs.Common.{◌≡◌, ℕ, zero, suc, ◌+◌, ◌-◌, ◌*◌, ◌/◌, ◌%◌, ◌^◌, ◌<◌, ◌≤◌, refl, ◌∙◌, ap, arith}
use Rattle.std.proofs.Math.Nat.{div-eq_of_lt, mul-le-mul_right, one-le-pow, pow-le-pow_right}
use Rattle.std.proofs.lemmas.Nat.{shr-shr, pow-add}
use Rattle.flat_view.specs.Paths.{path_number}

-- no level
pub path_number-zero : (x y : ℕ) → path_number 0 x y ≡ 0
unfolding path_number
path_number-zero x y = refl

-- one level more
pub path_number-suc : (n x y : ℕ) → path_number (suc n) x y ≡ 4 * path_number n (x / 2) (y / 2) + (2 * (y % 2) + x % 2)
unfolding path_number
path_number-suc n x y = refl

pow_four : (b : ℕ) → 4 ^ suc b ≡ 4 * 4 ^ b
pow_four b = omega arith

pow_two : (b : ℕ) → 2 ^ suc b ≡ 2 * 2 ^ b
pow_two b = omega arith

times_four : (a p : ℕ) → a * (4 * p) ≡ 4 * (a * p)
times_four a p = omega arith

times_two : (a p : ℕ) → a * (2 * p) ≡ 2 * (a * p)
times_two a p = omega arith

-- the number is under 4 to the number of levels
pub path_number-small : (n x y : ℕ) → path_number n x y < 4 ^ n
path_number-small zero x y = omega (arith, path_number-zero x y)
path_number-small (suc n) x y =
    let s = path_number-suc n x y in
    let below = path_number-small n (x / 2) (y / 2) in
    let p = pow_four n in
    omega (arith, s, below, p)

-- the digits of the coarser levels stand above those of the finest ones
pub path_number-split : (b a x y : ℕ) → path_number (b + a) x y ≡ path_number a (x / 2 ^ b) (y / 2 ^ b) * 4 ^ b + path_number b x y
path_number-split zero a x y =
    let ex : x / 2 ^ 0 ≡ x = omega arith in
    let ey : y / 2 ^ 0 ≡ y = omega arith in
    let e : 0 + a ≡ a = omega arith in
    let l : path_number (0 + a) x y ≡ path_number a (x / 2 ^ 0) (y / 2 ^ 0) = cc in
    omega (arith, l, path_number-zero x y)
path_number-split (suc b) a x y =
    let e : suc b + a ≡ suc (b + a) = omega arith in
    let l : path_number (suc b + a) x y ≡ path_number (suc (b + a)) x y = ap (λ k. path_number k x y) e in
    let s = path_number-suc (b + a) x y in
    let ih = path_number-split b a (x / 2) (y / 2) in
    let one : 1 + b ≡ suc b = omega arith in
    let ex : x / 2 / 2 ^ b ≡ x / 2 ^ suc b = shr-shr x 1 b ∙ ap (λ k. x / 2 ^ k) one in
    let ey : y / 2 / 2 ^ b ≡ y / 2 ^ suc b = shr-shr y 1 b ∙ ap (λ k. y / 2 ^ k) one in
    let up : path_number a (x / 2 / 2 ^ b) (y / 2 / 2 ^ b) ≡ path_number a (x / 2 ^ suc b) (y / 2 ^ suc b) = cc in
    let t = path_number-suc b x y in
    let m : path_number a (x / 2 ^ suc b) (y / 2 ^ suc b) * 4 ^ suc b ≡ 4 * (path_number a (x / 2 / 2 ^ b) (y / 2 / 2 ^ b) * 4 ^ b) =
    rw (← up) (rw (pow_four b) (times_four _ _)) in
    omega (arith, l, s, ih, t, m)

-- no column and no row
pub path_number-origin : (n : ℕ) → path_number n 0 0 ≡ 0
path_number-origin zero = path_number-zero 0 0
path_number-origin (suc n) = omega (arith, path_number-suc n 0 0, path_number-origin n)

-- more levels than a column and a row have bits
pub path_number-deeper : (b m x y : ℕ) → b ≤ m → x < 2 ^ b → y < 2 ^ b → path_number m x y ≡ path_number b x y
path_number-deeper b m x y le lx ly =
    let s = path_number-split b (m - b) x y in
    let ex : x / 2 ^ b ≡ 0 = div-eq_of_lt lx in
    let ey : y / 2 ^ b ≡ 0 = div-eq_of_lt ly in
    let e : b + (m - b) ≡ m = omega arith in
    let o : path_number (m - b) 0 0 ≡ 0 = path_number-origin (m - b) in
    let l : path_number (b + (m - b)) x y ≡ path_number m x y = ap (λ k. path_number k x y) e in
    let z : path_number (m - b) (x / 2 ^ b) (y / 2 ^ b) ≡ 0 = cc in
    let t : path_number (m - b) (x / 2 ^ b) (y / 2 ^ b) * 4 ^ b ≡ 0 = rw z (omega arith) in
    omega (arith, s, l, t)

-- the digits of the column and of the row apart
pub path_number-parts : (n x y : ℕ) → path_number n x y ≡ path_number n x 0 + 2 * path_number n y 0
path_number-parts zero x y = omega (arith, path_number-zero x y, path_number-zero x 0, path_number-zero y 0)
path_number-parts (suc n) x y =
    omega (arith, path_number-suc n x y, path_number-suc n x 0, path_number-suc n y 0, path_number-parts n (x / 2) (y / 2))

-- only the last bits count
pub path_number-last : (n q r y : ℕ) → path_number n (q * 2 ^ n + r) y ≡ path_number n r y
path_number-last zero q r y = omega (arith, path_number-zero (q * 2 ^ 0 + r) y, path_number-zero r y)
path_number-last (suc n) q r y =
    let e : q * 2 ^ suc n ≡ 2 * (q * 2 ^ n) = rw (pow_two n) (times_two q (2 ^ n)) in
    let h : (q * 2 ^ suc n + r) / 2 ≡ q * 2 ^ n + r / 2 = omega (arith, e) in
    let m : (q * 2 ^ suc n + r) % 2 ≡ r % 2 = omega (arith, e) in
    let u : path_number n ((q * 2 ^ suc n + r) / 2) (y / 2) ≡ path_number n (q * 2 ^ n + r / 2) (y / 2) = ap (λ k. path_number n k (y / 2)) h in
    omega (arith, path_number-suc n (q * 2 ^ suc n + r) y, path_number-suc n r y, u, m, path_number-last n q (r / 2) (y / 2))

-- two columns and rows with one number are the same
pub path_number-column : (n x y u v : ℕ) → x < 2 ^ n → y < 2 ^ n → u < 2 ^ n → v < 2 ^ n → path_number n x y ≡ path_number n u v → (x ≡ u) × (y ≡ v)
path_number-column zero x y u v lx ly lu lv e = (omega arith, omega arith)
path_number-column (suc n) x y u v lx ly lu lv e =
    let p = pow_two n in
    let s = path_number-suc n x y in
    let t = path_number-suc n u v in
    let same : path_number n (x / 2) (y / 2) ≡ path_number n (u / 2) (v / 2) = omega (arith, s, t) in
    let ih = path_number-column n (x / 2) (y / 2) (u / 2) (v / 2) (omega (arith, p)) (omega (arith, p)) (omega (arith, p)) (omega (arith, p)) same in
    (omega (arith, s, t, same, ih.0), omega (arith, s, t, same, ih.1))

-- the number of the last 20 bits, by two halves of them
pub digits_of-halves : (n high low : ℕ) → high ≡ path_number 10 (n / 1024 % 1024) 0 → low ≡ path_number 10 (n % 1024) 0 → high * 1048576 + low ≡ path_number 20 n 0
digits_of-halves n high low eh el =
    let s : path_number 20 n 0 ≡ path_number 10 (n / 1024) 0 * 1048576 + path_number 10 n 0 = path_number-split 10 10 n 0 in
    let a : path_number 10 (n / 1024 / 1024 * 1024 + n / 1024 % 1024) 0 ≡ path_number 10 (n / 1024 % 1024) 0 = path_number-last 10 (n / 1024 / 1024) (n / 1024 % 1024) 0 in
    let b : path_number 10 (n / 1024 * 1024 + n % 1024) 0 ≡ path_number 10 (n % 1024) 0 = path_number-last 10 (n / 1024) (n % 1024) 0 in
    let ea : n / 1024 / 1024 * 1024 + n / 1024 % 1024 ≡ n / 1024 = omega arith in
    let eb : n / 1024 * 1024 + n % 1024 ≡ n = omega arith in
    let ua : path_number 10 (n / 1024 / 1024 * 1024 + n / 1024 % 1024) 0 ≡ path_number 10 (n / 1024) 0 = ap (λ k. path_number 10 k 0) ea in
    let ub : path_number 10 (n / 1024 * 1024 + n % 1024) 0 ≡ path_number 10 n 0 = ap (λ k. path_number 10 k 0) eb in
    omega (arith, s, a, b, ua, ub)

-- the digits of a number, from those of its half
pub digits-more : (n half : ℕ) → n < 1024 → half ≡ path_number 10 (n / 2) 0 → 4 * half + n % 2 ≡ path_number 10 n 0
digits-more n half lt e =
    let s = path_number-suc 9 n 0 in
    let d : path_number 10 (n / 2) 0 ≡ path_number 9 (n / 2) 0 = path_number-deeper 9 10 (n / 2) 0 (omega arith) (omega arith) (omega arith) in
    omega (arith, s, d)

-- such digits are few
pub digits-small : (n : ℕ) → path_number 10 n 0 < 1048576
digits-small n = path_number-small 10 n 0

-- the size of a tile, by bits
pub pow_bits : (k : ℕ) → 2 ^ (2 * k) ≡ 4 ^ k
pow_bits zero = refl
pow_bits (suc k) =
    let e : 2 * suc k ≡ 2 * k + 2 = omega arith in
    let p : 2 ^ (2 * suc k) ≡ 2 ^ (2 * k) * 2 ^ 2 = ap (λ j. 2 ^ j) e ∙ pow-add 2 (2 * k) 2 in
    omega (arith, p, pow_bits k, pow_four k)

-- no tile of 20 levels has more numbers
pub size-small : (k : ℕ) → k ≤ 20 → 4 ^ k ≤ 1099511627776
size-small k le =
    let pos : 0 < 4 = omega arith in
    pow-le-pow_right pos le

-- the last number of a tile is one of its depth
pub numbers-small : (z k x y : ℕ) → z + k ≤ 20 → path_number z x y * 4 ^ k < 1099511627776
numbers-small z k x y le =
    let small = path_number-small z x y in
    let one = one-le-pow k 4 (omega arith) in
    let m : suc (path_number z x y) * 4 ^ k ≤ 4 ^ z * 4 ^ k = mul-le-mul_right (4 ^ k) small in
    let s : suc (path_number z x y) * 4 ^ k ≡ path_number z x y * 4 ^ k + 4 ^ k = omega arith in
    let p : 4 ^ (z + k) ≡ 4 ^ z * 4 ^ k = pow-add 4 z k in
    omega (arith, small, one, m, s, p, size-small (z + k) le)
