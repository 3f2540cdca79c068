use Rattle.std.proofs.Common.{Some, arith, sym, ap, length, ◌∙◌, get_or}
use Rattle.node_arena.specs.declared.link.Link.{Link}
use Rattle.node_arena.specs.Slots.{Children}
use Rattle.node_arena.proofs.Edits.{lies_at, found_child, child-read, removed_is, removed_rises}
use Rattle.node_arena.proofs.children.Children.remove.Goals as goal

pub remove-requires : goal.remove-requires
remove-requires c =
    let found = found_child _ _ _ c.seek-place.ensures.in_order (lies_at _ _ _ c.seek-place.ensures.place) c.requires in
    omega (arith, found.within, ap length c.self.view_is)

pub invariant_of-self : goal.invariant_of-self
invariant_of-self c = removed_rises _ _ _ _ _ c.self.view_is c.seek-place.ensures.in_order (found_child _ _ _ c.seek-place.ensures.in_order (lies_at _ _ _ c.seek-place.ensures.place) c.requires) c.remove.ensures.removed

pub returns-clause-given : goal.returns-clause-given
returns-clause-given c = child-read _ _ _ c.remove.result (found_child _ _ _ c.seek-place.ensures.in_order (lies_at _ _ _ c.seek-place.ensures.place) c.requires) (c.remove.ensures.item ∙ ap (λ (z : Children). get_or z c.seek-place.result.index c.remove.result) c.self.view_is) ∙ ap (λ (k : Link). Some k) (sym c.link.ensures)

pub returns-clause-removed : goal.returns-clause-removed
returns-clause-removed c = removed_is _ _ _ _ _ c.self.view_is (lies_at _ _ _ c.seek-place.ensures.place) (found_child _ _ _ c.seek-place.ensures.in_order (lies_at _ _ _ c.seek-place.ensures.place) c.requires) c.remove.ensures.removed
