use Rattle.std.proofs.Common.{◌≡◌, ◌+◌, ◌*◌, ◌^◌, length, ap, ◌∙◌, arith}
use Rattle.point_insert.proofs.ChangeAllowance.{below_small, visits-doubled, visits_within}
use Rattle.point_insert.proofs.room.insert_room.Goals as goal

pub overflow_mul-below : goal.overflow_mul-below
overflow_mul-below c =
    let t = c.loop-test.true in
    let e = c.loop.invariant.end in
    let b = below_small c.args.schema.now c.loop.below c.loop.counter (omega (arith, t, e)) c.loop.invariant.doubled in
    omega (arith, b)

pub overflow_mul-result : goal.overflow_mul-result
overflow_mul-result c = omega (arith, visits_within c.args.schema.now c.loop.below c.loop.counter (omega (arith, c.loop.auto.counter-end, c.loop.invariant.end)) c.loop.invariant.doubled)

pub overflow_mul-result-2 : goal.overflow_mul-result-2
overflow_mul-result-2 c = omega (arith, visits_within c.args.schema.now c.loop.below c.loop.counter (omega (arith, c.loop.auto.counter-end, c.loop.invariant.end)) c.loop.invariant.doubled)

pub returns : goal.returns
returns c =
    let w = c.loop.auto.counter-end in
    let t = c.loop-test.false in
    let e = c.loop.invariant.end in
    let n : c.loop.counter ≡ length c.args.schema.now.categories = omega (arith, w, t, e) in
    ap (λ k. 5 * k) (visits-doubled c.args.schema.now c.loop.below (c.loop.invariant.doubled ∙ ap (λ k. 2 ^ (k + 1)) n))
