use Rattle.std.proofs.Common.{sym, ◌∙◌}
use Rattle.cube_view.specs.Walks.{down}
use Rattle.node_arena.specs.Slots.{target}
use Rattle.proper_path.proofs.Links.{proper_there}
use Rattle.group_insert.proofs.way.not_own.Goals as goal

pub returns-then-is_proper-clause-owned : goal.returns-then-is_proper-clause-owned
returns-then-is_proper-clause-owned g c = (
  target c.in-Some.link,
  sym (proper_there c.args.work.now.slots c.args.node.0 (down c.args.label) c.in-Some.link c.child.result c.in-Some.is c.child.ensures.link (sym c.is_proper.ensures ∙ c.if-is_proper.true)),
)
