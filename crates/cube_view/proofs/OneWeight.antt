-- What one point weighs by one test and by another.
use Rattle.std.proofs.Common.{◌≡◌, ℕ, ◌+◌, ◌≤◌, Bool, true, false, cond, refl, arith}

-- 1 where the test holds
abbrev pub one_if : Bool → ℕ
one_if b = cond b 1 0

-- the weight where the test holds
abbrev pub weigh : Bool → ℕ → ℕ
weigh b w = cond b w 0

-- a weight that two tests share
pub split_one : (a b c : Bool) (w : ℕ) → one_if a ≡ one_if b + one_if c → weigh a w ≡ weigh b w + weigh c w
split_one true true true w e = absurd (omega (arith, e))
split_one true true false w e = omega arith
split_one true false true w e = omega arith
split_one true false false w e = absurd (omega (arith, e))
split_one false true true w e = absurd (omega (arith, e))
split_one false true false w e = absurd (omega (arith, e))
split_one false false true w e = absurd (omega (arith, e))
split_one false false false w e = omega arith

-- a weight by a test that holds less often
pub less_one : (a b : Bool) (w : ℕ) → (a ≡ true → b ≡ true) → weigh a w ≤ weigh b w
less_one true true w h = omega arith
less_one true false w h = absurd (cc (h refl))
less_one false true w h = omega arith
less_one false false w h = omega arith
