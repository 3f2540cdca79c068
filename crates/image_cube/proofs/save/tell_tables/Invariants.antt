use Rattle.std.proofs.Common.{ℕ, ◌<◌, ◌^◌}
use Rattle.time_table.specs.Counts.{AllCounted}
use Rattle.node_arena.specs.Slots.{counts_of, slot_of}
use Rattle.image_cube.proofs.save.tell_tables.Given as goal

abbrev pub invariant-loop-i : goal.invariant-loop-i
invariant-loop-i g l = (k : ℕ) → k < l.i → k < 2 ^ 32 → AllCounted (counts_of (slot_of l.arena k))
