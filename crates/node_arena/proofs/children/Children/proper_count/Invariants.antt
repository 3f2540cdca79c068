use Rattle.node_arena.proofs.LinkCounts.{IsCounting}
use Rattle.node_arena.proofs.children.Children.proper_count.Given as goal

abbrev pub invariant-loop-i : goal.invariant-loop-i
invariant-loop-i l = IsCounting l.self l.i l.count
