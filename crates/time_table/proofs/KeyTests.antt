-- What the tests of keys and of their order say, as equations.
use Rattle.std.proofs.Common.{◌≡◌, ℕ, ◌<◌, Bool, true, false, T, refl}
use Rattle.std.specs.Ordering.{nat_cmp, is_lt}
use Rattle.std.proofs.lemmas.Float.{T_from_true}
use Rattle.time_table.proofs.KeySums.{below}

-- a test that holds, as an equation
pub from_T : (b : Bool) → T b → b ≡ true
from_T true t = refl
from_T false t = absurd t

-- a key that the test finds less is less
pub less_from : (a b : ℕ) → is_lt (nat_cmp a b) ≡ true → a < b
less_from a b e = below a b (T_from_true (is_lt (nat_cmp a b)) e)
