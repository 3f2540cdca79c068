use Rattle.std.proofs.Common.{ℕ, ◌+◌, sym, subst}
use Rattle.shape_test.specs.Owners.{AreOwners, Before}
use Rattle.shape_test.proofs.ChildPlaces.{at_start, behind_child}
use Rattle.shape_test.proofs.OwnerLists.{child_noted, child_second, children_noted, when_true, when_false}
use Rattle.shape_test.proofs.owner.note_children.Goals as goal

pub returns-then-not-note_link : goal.returns-then-not-note_link
returns-then-not-note_link c = child_second c.args.arena.now c.args.id.0 c.loop-label.from c.loop-label.owners c.in-Some.label c.in-Some.link c.loop-label.invariant.noted c.in-Some.ensures.child (when_false c.note_link.result _ _ c.note_link.ensures c.if-not-note_link.true)

pub loop-label-preserved : goal.loop-label-preserved
loop-label-preserved c = record {
  so_far = behind_child c.loop-label.invariant.so_far c.in-Some.ensures.child c.in-Some.ensures.place c.from-from.ensures;
  noted = subst (λ (n : ℕ). AreOwners c.args.arena.now (Before c.args.id.0 (n + 1)) c.note_link.new.owners) (sym c.from-from.ensures) (child_noted c.args.arena.now c.args.id.0 c.loop-label.from c.loop-label.owners c.note_link.new.owners c.in-Some.label c.in-Some.link c.loop-label.invariant.noted c.in-Some.ensures.child (when_true c.note_link.result _ _ c.note_link.ensures c.if-not-note_link.false));
}

pub returns : goal.returns
returns c = children_noted c.args.arena.now c.args.id.0 c.loop-label.from c.loop-label.owners c.loop-label.invariant.so_far.last c.in_default.ensures.child c.loop-label.invariant.noted

pub loop-label-init : goal.loop-label-init
loop-label-init c = record {
  so_far = at_start c.args.arena.now c.args.id.0;
  noted = c.requires.owners;
}
