-- Files of which one byte more than a limit is read.
use Rattle.std.proofs.Common.{◌≡◌, ℕ, ◌+◌, ◌≤◌, ◌<◌, true, false, List, length, take, Option, Some, None, Err, inl, inr, sym, ◌∙◌, ap, arith}
use Rattle.std.proofs.lemmas.Bool.{cases_lt}
use Rattle.std.proofs.lemmas.List.{length-take-le, take_all}
use Rattle.std.specs.Prelude.{IsOk, is_ok}
use Rattle.cube_schema.specs.Meaning.{plan_meaning}
use Rattle.cube_schema.specs.declared.fault.PlanFault.{PlanFault}
use Rattle.outer_io.specs.Told.{Told}

-- bytes that are a plan have no fault
pub no_fault : (bytes : List ℕ) (fault : PlanFault) → IsOk (plan_meaning bytes) → plan_meaning bytes ≡ Err fault → ⊥
no_fault bytes fault good bad = apart (sym good ∙ ap is_ok bad)
  where
    apart : true ≡ false → ⊥
    apart e = cc

module _ (most : ℕ) where
  -- what was read is the file where it is within the limit
  pub front_whole : (all bytes : List ℕ) → bytes ≡ take (most + 1) all → length bytes ≤ most → bytes ≡ all
  front_whole all bytes front short =
      elim (cases_lt most (length all)) [
        | inl long ↦
            let size = ap length front ∙ length-take-le (most + 1) all (omega (arith, long)) in
            absurd (omega (arith, size, short))
        | inr few ↦ front ∙ take_all (most + 1) all (omega (arith, few))
      ]

  -- and the file is over the limit where that is
  pub front_long : (all bytes : List ℕ) → bytes ≡ take (most + 1) all → most < length bytes → most < length all
  front_long all bytes front long =
      elim (cases_lt most (length all)) [
        | inl more ↦ more
        | inr few ↦ let size = ap length (front ∙ take_all (most + 1) all (omega (arith, few))) in omega (arith, size, long)
      ]

  -- so it is of a file that is told
  pub told_whole : (file : Option (List ℕ)) (bytes : List ℕ) → Told file (λ all. bytes ≡ take (most + 1) all) → length bytes ≤ most → Told file (λ all. bytes ≡ all)
  told_whole None bytes front short = tt
  told_whole (Some all) bytes front short = front_whole all bytes front short

  pub told_long : (file : Option (List ℕ)) (bytes : List ℕ) → Told file (λ all. bytes ≡ take (most + 1) all) → most < length bytes → Told file (λ all. most < length all)
  told_long None bytes front long = tt
  told_long (Some all) bytes front long = front_long all bytes front long
