use Rattle.std.proofs.Common.{◌≡◌, ◌++◌, take}
use Rattle.std.specs.List.{flat_map}
use Rattle.node_arena.specs.Slots.{children_of, slot_of}
use Rattle.cube_image.specs.Bytes.{child_bytes}
use Rattle.cube_image.specs.Order.{moved_child}
use Rattle.cube_image.proofs.print.put_children.Given as goal

abbrev pub invariant-loop-i : goal.invariant-loop-i
invariant-loop-i l = l.out.items ≡ l.initial.out.items ++ flat_map (λ c. child_bytes (moved_child l.order.places c)) (take l.i (children_of (slot_of l.arena l.id.0)))
