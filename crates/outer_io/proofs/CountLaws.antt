-- Laws of counts that rise.
use Rattle.std.proofs.Common.{ℕ, zero, suc, ◌+◌, ◌<◌, add-one, subst, arith}
use Rattle.outer_io.specs.Faults.{Rose, RoseBy}

-- a count that is as before rose by none
pub RoseBy-zero : (a : ℕ) → RoseBy 0 a a
RoseBy-zero a = (omega arith, omega arith)

-- rising by j and then by k is rising by both
pub RoseBy-add : (j k a b c : ℕ) → RoseBy j a b → RoseBy k b c → RoseBy (j + k) a c
RoseBy-add j k a b c p q = (omega (arith, p.0, p.1, q.0, q.1), omega (arith, p.0, p.1, q.0, q.1))

-- a count that rose k times, once for each part that was given back, rose by k
pub RoseBy-each : (k : ℕ) (counts : ℕ → ℕ) → ((i : ℕ) → i < k → Rose (counts i) (counts (i + 1))) → RoseBy k (counts 0) (counts k)
RoseBy-each zero counts each = RoseBy-zero (counts 0)
RoseBy-each (suc k) counts each =
    let P : ℕ → Type 0 = λ n. RoseBy n (counts 0) (counts n) in
    subst P (add-one k) (RoseBy-add k 1 (counts 0) (counts k) (counts (k + 1)) (RoseBy-each k counts (λ i l. each i (omega arith))) (each k (omega arith)))
