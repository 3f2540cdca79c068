use Rattle.std.proofs.Common.{Some, None, sym, ◌∙◌, arith}
use Rattle.node_arena.proofs.Edits.{lies_at, child_from-place}
use Rattle.node_arena.specs.Slots.{children_of, slot_of}
use Rattle.shape_test.proofs.ChildPlaces.{place_more, get_some, get_none}
use Rattle.shape_test.proofs.Childwise.{first_told}
use Rattle.shape_test.proofs.children.first_child.Goals as goal

pub returns-then-i-count-clause-child : goal.returns-then-i-count-clause-child
returns-then-i-count-clause-child c =
    let cs = children_of (slot_of c.args.arena.now c.args.id.0) in
    first_told c.args.arena.now c.args.id.0 c.args.from None c.requires.labels c.requires.in_order
    (get_none cs c.args.i (let n = c.requires.count in omega (arith, n)) ∙ sym (child_from-place c.args.from cs c.args.i (lies_at c.args.from cs c.args.i c.requires.place)))

pub returns-clause-child : goal.returns-clause-child
returns-clause-child c =
    let cs = children_of (slot_of c.args.arena.now c.args.id.0) in
    first_told c.args.arena.now c.args.id.0 c.args.from (Some c.child_at.result) c.requires.labels c.requires.in_order
    (get_some cs c.args.i c.child_at.result (let n = c.requires.count in omega (arith, n)) c.child_at.ensures.child ∙ sym (child_from-place c.args.from cs c.args.i (lies_at c.args.from cs c.args.i c.requires.place)))

pub returns-clause-place : goal.returns-clause-place
returns-clause-place c =
    let cs = children_of (slot_of c.args.arena.now c.args.id.0) in
    place_more cs c.args.i c.child_at.result c.requires.in_order (let n = c.requires.count in omega (arith, n)) c.child_at.ensures.child
