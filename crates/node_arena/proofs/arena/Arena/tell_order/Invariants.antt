use Rattle.node_arena.proofs.LinkCounts.{IsRisingTo}
use Rattle.node_arena.proofs.arena.Arena.tell_order.Given as goal

abbrev pub invariant-loop-i : goal.invariant-loop-i
invariant-loop-i l = IsRisingTo l.self l.i
