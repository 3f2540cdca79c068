use Rattle.std.proofs.Common.{sym, ◌∙◌, arith}
use Rattle.cube_store.proofs.Cursors.{slot_in_range, slot_above, finds_below, finds_none_below, is_quadrant, stands_below, down_cost-here}
use Rattle.cube_store.proofs.view.CubeCubeView.down.Goals as goal

pub child-requires-clause-in_range : goal.child-requires-clause-in_range
child-requires-clause-in_range g c = slot_in_range _ _ _ _ c.args.self.now.counted _ _ c.requires.stands

pub child-requires-clause-is_node : goal.child-requires-clause-is_node
child-requires-clause-is_node g c = slot_above _ _ _ _ c.args.self.now.counted _ _ c.requires.stands c.requires.above

pub returns-in_err-link-clause-found : goal.returns-in_err-link-clause-found
returns-in_err-link-clause-found g c h counts =
    rw c.from_residual.ensures (finds_none_below _ _ _ _ c.args.self.now.counted _ _ c.requires.stands c.requires.above c.args.label (sym c.child.ensures.link ∙ c.in_err-link.was) h counts)

pub returns-in_err-link-clause-cost : goal.returns-in_err-link-clause-cost
returns-in_err-link-clause-cost g c = omega (arith, c.child.ensures.cost, down_cost-here _ _ _ _ c.requires.stands c.child.ensures.in_order)

pub longer-requires-clause-placed : goal.longer-requires-clause-placed
longer-requires-clause-placed g c = c.requires.stands.walked.placed

pub longer-requires-clause-quadrant : goal.longer-requires-clause-quadrant
longer-requires-clause-quadrant g c = is_quadrant _ _ _ _ c.args.self.now.counted _ _ c.requires.stands c.requires.above c.args.label c.in_ok-link.link (sym c.child.ensures.link ∙ c.in_ok-link.was)

pub returns-clause-found : goal.returns-clause-found
returns-clause-found g c = finds_below _ _ _ _ c.args.self.now.counted _ _ c.requires.stands c.requires.above c.args.label c.in_ok-link.link (sym c.child.ensures.link ∙ c.in_ok-link.was)

pub returns-clause-place : goal.returns-clause-place
returns-clause-place g c =
    let there = sym c.child.ensures.link ∙ c.in_ok-link.was in (
      stands_below _ _ _ _ c.args.self.now.counted _ _ c.requires.stands c.requires.above c.args.label c.in_ok-link.link there
          (is_quadrant _ _ _ _ c.args.self.now.counted _ _ c.requires.stands c.requires.above c.args.label c.in_ok-link.link there) c.longer.result c.longer.ensures.place c.longer.ensures.placed,
      c.longer.ensures.place,
    )

pub returns-clause-cost : goal.returns-clause-cost
returns-clause-cost g c = omega (arith, c.child.ensures.cost, down_cost-here _ _ _ _ c.requires.stands c.child.ensures.in_order)
