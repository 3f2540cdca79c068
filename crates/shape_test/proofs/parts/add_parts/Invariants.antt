use Rattle.std.proofs.Common.{◌≡◌, ◌++◌, take}
use Rattle.node_arena.specs.Slots.{children_of, slot_of}
use Rattle.shape_test.specs.Parts.{parts_in}
use Rattle.shape_test.proofs.parts.add_parts.Given as goal

abbrev pub invariant-loop-i : goal.invariant-loop-i
invariant-loop-i g l = l.parts.items ≡ l.fn.parts.items ++ parts_in l.arena (take l.i (children_of (slot_of l.arena l.id.0)))
