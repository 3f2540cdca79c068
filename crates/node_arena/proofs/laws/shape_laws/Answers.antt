use Rattle.node_arena.proofs.LinkTotals.{tells_links}
use Rattle.node_arena.proofs.Walks.{tells_walks, tells_weights}
use Rattle.node_arena.proofs.laws.shape_laws.Goals as goal

pub returns-clause-walks : goal.returns-clause-walks
returns-clause-walks c = tells_walks

pub returns-clause-weights : goal.returns-clause-weights
returns-clause-weights c = tells_weights

pub returns-clause-links : goal.returns-clause-links
returns-clause-links c = tells_links
