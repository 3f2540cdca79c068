use Rattle.std.proofs.Common.{sym, ◌∙◌, arith}
use Rattle.cube_store.proofs.Cursors.{slot_in_range, slot_above, finds_next, finds_no_next, down_cost-here}
use Rattle.cube_store.proofs.view.CubeCubeView.next_label.Goals as goal

pub next_child-requires-clause-in_range : goal.next_child-requires-clause-in_range
next_child-requires-clause-in_range g c = slot_in_range _ _ _ _ c.args.self.now.counted _ _ c.requires.stands

pub next_child-requires-clause-is_node : goal.next_child-requires-clause-is_node
next_child-requires-clause-is_node g c = slot_above _ _ _ _ c.args.self.now.counted _ _ c.requires.stands c.requires.above

pub returns-in_err-label-clause-found : goal.returns-in_err-label-clause-found
returns-in_err-label-clause-found g c h counts =
    rw c.from_residual.ensures (finds_no_next _ _ _ _ c.args.self.now.counted _ _ c.requires.stands c.requires.above c.args.from (sym c.next_child.ensures.child ∙ c.in_err-label.was) h counts)

pub returns-in_err-label-clause-cost : goal.returns-in_err-label-clause-cost
returns-in_err-label-clause-cost g c = omega (arith, c.next_child.ensures.cost, down_cost-here _ _ _ _ c.requires.stands c.next_child.ensures.in_order)

pub returns-clause-found : goal.returns-clause-found
returns-clause-found g c =
    finds_next _ _ _ _ c.args.self.now.counted _ _ c.requires.stands c.requires.above c.args.from (c.in_ok-label.label, c.in_ok-label.field-0-1) c.next_child.ensures.in_order (sym c.next_child.ensures.child ∙ c.in_ok-label.was)

pub returns-clause-cost : goal.returns-clause-cost
returns-clause-cost g c = omega (arith, c.next_child.ensures.cost, down_cost-here _ _ _ _ c.requires.stands c.next_child.ensures.in_order)
