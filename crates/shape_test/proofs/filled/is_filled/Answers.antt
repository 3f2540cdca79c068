use Rattle.std.proofs.Common.{sym, ◌∙◌}
use Rattle.shape_test.proofs.NodeLinks.{filled_with, filled_without}
use Rattle.shape_test.proofs.filled.is_filled.Goals as goal

pub returns-in-Some : goal.returns-in-Some
returns-in-Some g c = filled_with c.args.arena.now c.args.id.0 c.args.is_deepest c.has_child-has_child.result c.has_child-has_child.ensures c.has_enough.result _ (sym c.content.ensures.link ∙ c.in-Some.is) c.has_enough.ensures

pub returns-in-None : goal.returns-in-None
returns-in-None g c = filled_without c.args.arena.now c.args.id.0 c.args.is_deepest c.has_child-has_child.result c.has_child-has_child.ensures c.is_bare_root.result (sym c.content.ensures.link ∙ c.in-None.is) c.is_bare_root.ensures
