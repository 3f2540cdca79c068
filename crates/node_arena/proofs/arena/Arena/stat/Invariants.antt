use Rattle.node_arena.proofs.LinkCounts.{IsTotalled}
use Rattle.node_arena.proofs.arena.Arena.stat.Given as goal

abbrev pub invariant-loop-i : goal.invariant-loop-i
invariant-loop-i l = IsTotalled l.self l.i l.stat
