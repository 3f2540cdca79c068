use Rattle.std.proofs.Common.{◌≡◌, ◌++◌, ◌≤◌, length, take}
use Rattle.std.specs.List.{flat_map}
use Rattle.cube_image.specs.Bytes.{slot_bytes}
use Rattle.cube_image.specs.Image.{most_bytes}
use Rattle.cube_image.specs.Order.{in_order}
use Rattle.cube_image.proofs.print.put_slots.Given as goal

abbrev pub invariant-loop-i : goal.invariant-loop-i
invariant-loop-i g l = record {
  is : l.out.items ≡ l.initial.out.items ++ flat_map slot_bytes (take l.i (in_order l.arena l.order.places));
  fits : length l.out.items ≤ most_bytes;
}
