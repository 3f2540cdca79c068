use Rattle.cross_table.proofs.Topmost as topmost
use Rattle.cross_table.proofs.laws.top_order.Goals as goal

pub returns : goal.returns
returns c = topmost.top_order
