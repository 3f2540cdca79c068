use Rattle.std.proofs.Common.{arith}
use Rattle.node_arena.proofs.LinkCounts.{proper-shared}
use Rattle.node_arena.proofs.children.Children.link_counts.Goals as goal

pub returns-clause-shared : goal.returns-clause-shared
returns-clause-shared c = let both = proper-shared c.args.self.now in omega (arith, c.proper_count-proper.ensures.count, c.len.ensures.count, both)
