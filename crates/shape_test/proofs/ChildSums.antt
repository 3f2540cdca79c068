-- Numbers that are counted up to one.
use Rattle.std.proofs.Common.{◌≡◌, ℕ, ◌<◌, ◌≤◌, cond, nat_lt, arith}

pub counted_in : (k n v : ℕ) → k < n → cond {A = ℕ} (nat_lt k n) v 0 ≡ v
counted_in k n v l = grind arith

pub counted_out : (k n v : ℕ) → n ≤ k → cond {A = ℕ} (nat_lt k n) v 0 ≡ 0
counted_out k n v l = grind arith
