-- One more value has its mark.
use Rattle.std.proofs.Common.{◌≡◌, ◌<◌, ◌≢◌, length, arith, refl, get_or-set_other, get_or-set_same, below_more}
use Rattle.std.proofs.Math.ListN.{length-set}
use Rattle.list_tables.proofs.marks.marks_of.Goals as goal

pub loop-value-init : goal.loop-value-init
loop-value-init c = (refl, λ v lt. absurd (omega arith))

pub loop-value-preserved : goal.loop-value-preserved
loop-value-preserved c =
    let n = c.loop-value.value in
    let inv = c.loop-value.invariant.1 in
    let in_it : n < length c.loop-value.marks = omega (arith, c.loop-value.invariant.0) in (
      simp length-set c.loop-value.invariant.0,
      below_more _ _
          (λ k h. let ne : k ≢ n = omega arith in rw get_or-set_other (inv k h))
          (rw get_or-set_same c.has.ensures),
    )
