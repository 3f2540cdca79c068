-- Counts of faults that rose, and what gives them.
use Rattle.std.proofs.Common.{◌≡◌, ℕ, zero, suc, ◌+◌, ◌≤◌, ◌==◌, not, cond, List, ◌∷◌, Result, Ok, Err, refl, arith}
use Rattle.std.proofs.lemmas.List.Sums.{sum_by-cons}
use Rattle.outer_io.specs.Asking.{CountsPart}
use Rattle.outer_io.specs.Faults.{HasCause, Rose, RoseBy}
use Rattle.outer_io.specs.declared.fault.IoFault.{IoFault}
use Rattle.outer_io.specs.declared.fault.IoFault.TheVariants as fault
use Rattle.run_files.specs.GivingBack.{faulty}

-- a count that rose and then grew rose, and one that grew and then rose
pub rose_later : (a b c : ℕ) → Rose a b → b ≤ c → Rose a c
rose_later a b c rose more = grind arith

pub rose_from_before : (a b c : ℕ) → a ≤ b → Rose b c → Rose a c
rose_from_before a b c more rose = grind arith

-- so did one that rose by 1 or more
pub rose_once : (k a b : ℕ) → 1 ≤ k → RoseBy k a b → Rose a b
rose_once k a b one rose = (rose.0, omega (arith, rose.0, rose.1, one))

-- one of some counts that is not 0 is counted
pub faulty-cons : (n : ℕ) (counts : List ℕ) → faulty (n ∷ counts) ≡ cond (not (n == 0)) 1 0 + faulty counts
faulty-cons n counts = sum_by-cons (λ n. cond (not (n == 0)) 1 0) n counts

-- ---- giving a part back

grown_by : (b c n : ℕ) (r : Result (Unit {0}) IoFault) → HasCause b c r fault.Failed → b ≤ c
grown_by b c n (Ok x) h = omega (arith, h.quiet (λ e. cc))
grown_by b c n (Err fault.Failed) h = (h.rose refl).0
grown_by b c n (Err fault.NoMemory) h = omega (arith, h.quiet (λ e. cc))

-- it lets no count fall
pub counts_grow : (b c n : ℕ) (r : Result (Unit {0}) IoFault) → CountsPart b c n r → b ≤ c
counts_grow b c zero r h = grown_by b c 0 r (h.cause refl)
counts_grow b c (suc n) r h = (h.rose (omega arith, omega arith)).0

-- and raises it where it failed
pub counts_failed : (b c n : ℕ) (r : Result (Unit {0}) IoFault) → r ≡ Err fault.Failed → CountsPart b c n r → Rose b c
counts_failed b c zero r e h = (h.cause refl).rose e
counts_failed b c (suc n) r e h = h.rose (omega arith, omega arith)
