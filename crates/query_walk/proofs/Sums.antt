-- Laws of sums over the numbers under a number.
use Rattle.std.proofs.Common.{◌≡◌, ℕ, zero, suc, ◌+◌, ◌-◌, ◌≤◌, false, cond, List, length, get_or, Bool, ap, arith, add-one, add-zero, add-suc}
use Rattle.query_walk.specs.Costs.{sum_over, sum_upto}

-- one number more
pub sum_upto-more : (f : ℕ → ℕ) (n : ℕ) → sum_upto f (n + 1) ≡ sum_upto f n + f n
sum_upto-more f n = ap (sum_upto f) (add-one n)

-- m numbers more have no less
more_numbers : (f : ℕ → ℕ) (n m : ℕ) → sum_upto f n ≤ sum_upto f (n + m)
more_numbers f n zero = let e = ap (sum_upto f) (add-zero n) in omega (arith, e)
more_numbers f n (suc m) = let e : sum_upto f (n + suc m) ≡ sum_upto f (n + m) + f (n + m) = ap (sum_upto f) (add-suc n m) in let r = more_numbers f n m in omega (arith, e, r)

-- the numbers under a higher one have no less
pub sum_upto-rises : (f : ℕ → ℕ) (n m : ℕ) → n ≤ m → sum_upto f n ≤ sum_upto f m
sum_upto-rises f n m le =
    let all : n + (m - n) ≡ m = omega (arith, le) in
    let e = ap (sum_upto f) all in
    let r = more_numbers f n (m - n) in
    omega (arith, e, r)

-- a set's values under n have no more than all of them
pub sum_over-within : (set : List Bool) (f : ℕ → ℕ) (n : ℕ) → n ≤ length set → sum_upto (λ v. cond (get_or set v false) (f v) 0) n ≤ sum_over set f
sum_over-within set f n le = sum_upto-rises (λ v. cond (get_or set v false) (f v) 0) n (length set) le
