use Rattle.std.proofs.Common.{Some, arith, sym, ap, length, ◌∙◌}
use Rattle.node_arena.specs.declared.link.Link.{Link}
use Rattle.node_arena.proofs.Edits.{lies_at, found_child, child-read, replaced_is, replaced_rises}
use Rattle.node_arena.proofs.children.Children.replace.Goals as goal

pub item-old-requires : goal.item-old-requires
item-old-requires c = let found = found_child _ _ _ c.seek-place.ensures.in_order (lies_at _ _ _ c.seek-place.ensures.place) c.requires in found.within

pub set-requires : goal.set-requires
set-requires c =
    let found = found_child _ _ _ c.seek-place.ensures.in_order (lies_at _ _ _ c.seek-place.ensures.place) c.requires in
    omega (arith, found.within, ap length c.self.view_is)

pub returns-clause-given : goal.returns-clause-given
returns-clause-given c = child-read _ _ _ c.item-old.result (found_child _ _ _ c.seek-place.ensures.in_order (lies_at _ _ _ c.seek-place.ensures.place) c.requires) c.item-old.ensures.item ∙ ap (λ (k : Link). Some k) (sym c.link.ensures)

pub returns-clause-replaced : goal.returns-clause-replaced
returns-clause-replaced c = replaced_is _ _ _ _ _ c.args.link c.new.result c.new.ensures c.self.view_is (lies_at _ _ _ c.seek-place.ensures.place) (found_child _ _ _ c.seek-place.ensures.in_order (lies_at _ _ _ c.seek-place.ensures.place) c.requires) c.set.ensures

pub invariant_of-self : goal.invariant_of-self
invariant_of-self c = replaced_rises _ _ _ _ _ c.args.link c.new.result c.new.ensures c.self.view_is c.seek-place.ensures.in_order (found_child _ _ _ c.seek-place.ensures.in_order (lies_at _ _ _ c.seek-place.ensures.place) c.requires) c.set.ensures
