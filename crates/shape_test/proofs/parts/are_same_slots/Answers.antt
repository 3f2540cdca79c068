use Rattle.std.proofs.Common.{refl, arith}
use Rattle.shape_test.proofs.PartLists.{same_slots, slots_of_same}
use Rattle.shape_test.specs.declared.parts.Part.{Part}
use Rattle.shape_test.proofs.parts.are_same_slots.Goals as goal

pub returns-then-whole-i : goal.returns-then-whole-i
returns-then-whole-i c = (
  λ no. absurd cc,
  λ e.
      let d : Part = record { label = 0; content = record { 0 = 0 } } in
      let s = slots_of_same c.args.whole.now c.args.parts.now c.loop-i.i d e c.loop-i-test.true in
      let n = c.if-whole-i.true in
      absurd (n s),
)

pub returns : goal.returns
returns c = (λ y. same_slots c.args.whole.now c.args.parts.now (let n = c.if-whole-parts.false in omega (arith, n)) (λ k d l. c.loop-i.invariant k d (let t = c.loop-i-test.false in omega (arith, l, t))), λ e. refl)
