use Rattle.group_insert.proofs.Kids.{alone_of_none}
use Rattle.group_insert.proofs.node.is_alone.Goals as goal

pub returns-in-None : goal.returns-in-None
returns-in-None g c = alone_of_none c.args.work.now.slots c.args.at.0 c.args.label c.next_child.result c.is_none.result c.is_none.ensures c.in-None.ensures c.next_child.ensures.child
