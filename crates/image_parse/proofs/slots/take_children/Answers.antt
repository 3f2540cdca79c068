use Rattle.std.proofs.Common.{◌≡◌, ◌++◌, ◌∷◌, [], arith}
use Rattle.std.proofs.lemmas.Result.{err_from_is_err_and}
use Rattle.image_parse.specs.Reading.{children_at}
use Rattle.image_parse.proofs.Loops.{child_goes, child_ends, children_done}
use Rattle.image_parse.proofs.NodeReads.{children_found}
use Rattle.image_parse.proofs.slots.take_children.Goals as goal

pub returns-in_err-child-clause-read : goal.returns-in_err-child-clause-read
returns-in_err-child-clause-read c =
    let p = err_from_is_err_and c.from_residual.result c.from_residual.ensures.1 in
    rw (p.1, p.2) (child_ends c.in_err-child.field-0.0 c.loop.children.items c.args.count c.loop.counter c.args.slots c.loop.from c.loop.next c.loop.rest.now (children_at c.args.count c.args.slots 0 c.args.next.now c.args.bytes.now) c.loop-test.true c.in_err-child.ensures c.loop.invariant)

pub loop-preserved : goal.loop-preserved
loop-preserved c =
    let child = c.in_ok-child.child in
    let e : c.push.new.self.items ≡ c.loop.children.items ++ child ∷ [] = c.in_ok-push.ensures.items in
    let f : c.from-from.result ≡ child.0 = c.from-from.ensures in
    rw (e, f) (child_goes c.loop.children.items c.args.count c.loop.counter c.args.slots c.loop.from c.loop.next c.loop.rest.now child c.take_child.new.next c.in_ok-child.after.now (children_at c.args.count c.args.slots 0 c.args.next.now c.args.bytes.now) c.loop-test.true c.in_ok-child.ensures c.loop.invariant)

pub returns-clause-read : goal.returns-clause-read
returns-clause-read c = children_done c.loop.children.items c.args.count c.loop.counter c.args.slots c.loop.from c.loop.next c.loop.rest.now (children_at c.args.count c.args.slots 0 c.args.next.now c.args.bytes.now) c.loop-test.false c.loop.invariant

pub returns-clause-fits : goal.returns-clause-fits
returns-clause-fits c = children_found c.args.count c.args.slots c.args.next.now c.args.bytes.now c.loop.children.items _ _ (λ i. omega (arith, c.type_inv.bytes i)) (returns-clause-read c)
