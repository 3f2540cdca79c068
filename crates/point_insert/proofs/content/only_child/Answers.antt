use Rattle.std.proofs.Common.{sym, subst}
use Rattle.point_insert.specs.Visited.{TellsOnlyChild}
use Rattle.point_insert.proofs.NodeContents.{only_tells}
use Rattle.point_insert.proofs.content.only_child.Goals as goal

pub returns : goal.returns
returns c = subst (TellsOnlyChild c.args.work.now.slots c.args.at.0) (sym c.only_child.ensures.link) (only_tells c.args.work.now.slots c.args.at.0 c.only_child.ensures.in_order)
