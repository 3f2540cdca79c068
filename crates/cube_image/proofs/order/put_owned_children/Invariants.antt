use Rattle.std.proofs.Common.{◌≡◌, ◌++◌, take}
use Rattle.node_arena.specs.Slots.{children_of, slot_of}
use Rattle.cube_image.specs.Order.{owned_children}
use Rattle.cube_image.proofs.order.put_owned_children.Given as goal

abbrev pub invariant-loop-i : goal.invariant-loop-i
invariant-loop-i l = l.places ≡ l.initial.places ++ owned_children (take l.i (children_of (slot_of l.arena l.id.0)))
