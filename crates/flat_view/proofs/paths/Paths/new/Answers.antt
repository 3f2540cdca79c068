-- The digits of a number are those of its half, and its last bit.
use Rattle.std.proofs.Common.{◌≡◌, ◌<◌, ◌≢◌, ◌/◌, length, arith, refl, sym, get_or-set_other, get_or-set_same, below_more}
use Rattle.std.proofs.Math.ListN.{length-set}
use Rattle.flat_view.proofs.PathNumbers.{path_number-origin, digits-more, digits-small}
use Rattle.flat_view.proofs.paths.Paths.new.Goals as goal

pub loop-n-init : goal.loop-n-init
loop-n-init c = (refl, λ k lt. let z : k ≡ 0 = omega arith in rw z (sym (path_number-origin 10)))

pub overflow_mul-digits : goal.overflow_mul-digits
overflow_mul-digits c = omega (arith, c.loop-n.invariant.1 (c.loop-n.n / 2) (omega arith), digits-small (c.loop-n.n / 2))

pub overflow_add-digits : goal.overflow_add-digits
overflow_add-digits c = omega (arith, c.loop-n.invariant.1 (c.loop-n.n / 2) (omega arith), digits-small (c.loop-n.n / 2))

pub loop-n-preserved : goal.loop-n-preserved
loop-n-preserved c =
    let n = c.loop-n.n in
    let inv = c.loop-n.invariant.1 in
    let in_it : n < length c.loop-n.digits = omega (arith, c.loop-n.invariant.0) in (
      simp length-set c.loop-n.invariant.0,
      below_more _ _
          (λ k h. let ne : k ≢ n = omega arith in rw get_or-set_other (inv k h))
          (rw get_or-set_same (digits-more n _ (omega arith) (inv (n / 2) (omega arith)))),
    )
