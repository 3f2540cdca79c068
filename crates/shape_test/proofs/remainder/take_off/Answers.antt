use Rattle.std.proofs.Common.{length, inl, inr, arith}
use Rattle.std.proofs.lemmas.Bool.{cases_lt, le-leb}
use Rattle.shape_test.proofs.RowRemainders.{taken_more, passed_by, too_many, is_missing}
use Rattle.shape_test.proofs.remainder.take_off.Goals as goal
use Rattle.shape_test.proofs.remainder.take_off.Goals.{then-left-i+else-left-i-2, else-left-i}

pub returns-then-left-i-2-clause-all : goal.returns-then-left-i-2-clause-all
returns-then-left-i-2-clause-all c = λ fit.
    let T = c.loop-i.invariant in
    let long = T.long in
    absurd (too_many c.args.left.now c.args.rows.now c.loop-i.left c.loop-i.i c.loop-i.next (0, 0) c.requires.rises T (omega (arith, long)) (omega arith) c.if-left-i.true c.if-left-i-2.true fit)

pub loop-i-preserved : goal.loop-i-preserved
loop-i-preserved c =
    let T = c.loop-i.invariant in
    let long = T.long in
    elim c.if-left-i.branch [
      | then-left-i+else-left-i-2 w ↦ rw (w.left-is, w.next-is) (taken_more c.args.left.now c.args.rows.now c.loop-i.left c.loop-i.i c.loop-i.next (0, 0) c.requires.rises c.requires.orderly.rises T (omega (arith, long)) (omega arith) w.if-left-i.true w.if-left-i-2.false)
      | else-left-i w ↦ rw (w.left-is, w.next-is) (passed_by c.args.left.now c.args.rows.now c.loop-i.left c.loop-i.i c.loop-i.next (0, 0) T (omega (arith, long)) (omega arith) w.if-left-i.false)
    ]

pub returns-clause-all : goal.returns-clause-all
returns-clause-all c = λ fit.
    let T = c.loop-i.invariant in
    let long = T.long in
    elim (cases_lt c.loop-i.next (length c.args.rows.now)) [
      | inl less ↦ absurd (is_missing c.args.left.now c.args.rows.now c.loop-i.left c.loop-i.i c.loop-i.next T (omega (arith, long)) less c.requires.orderly.counted fit)
      | inr le ↦ le-leb (length c.args.rows.now) c.loop-i.next le
    ]
