use Rattle.std.proofs.Common.{◌<◌, ap, sym, ◌∙◌, length, rules, arith}
use Rattle.node_arena.specs.Slots.{children_of, slot_of}
use Rattle.cube_image.proofs.Rests.{children-last}
use Rattle.cube_image.proofs.children.child_count.Goals as goal

pub returns-clause-count : goal.returns-clause-count
returns-clause-count c =
    let small : c.child_at-label.result.0 < 256 = search rules in
    c.child_count-count.ensures.count ∙ sym (ap length (children-last (children_of (slot_of c.args.arena.now c.args.id.0)) c.child_count-count.result c.child_at-label.result c.child_count-count.ensures.in_order c.if-count-eq0.false c.child_count-count.ensures.count c.child_at-label.ensures.child small).0)

pub returns-clause-few : goal.returns-clause-few
returns-clause-few c =
    let small : c.child_at-label.result.0 < 256 = search rules in
    let few = (children-last (children_of (slot_of c.args.arena.now c.args.id.0)) c.child_count-count.result c.child_at-label.result c.child_count-count.ensures.in_order c.if-count-eq0.false c.child_count-count.ensures.count c.child_at-label.ensures.child small).1 in
    omega (arith, few, c.child_count-count.ensures.count)

pub returns-clause-all : goal.returns-clause-all
returns-clause-all c =
    let small : c.child_at-label.result.0 < 256 = search rules in
    (children-last (children_of (slot_of c.args.arena.now c.args.id.0)) c.child_count-count.result c.child_at-label.result c.child_count-count.ensures.in_order c.if-count-eq0.false c.child_count-count.ensures.count c.child_at-label.ensures.child small).0
