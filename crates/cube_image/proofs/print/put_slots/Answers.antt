use Rattle.std.proofs.Common.{◌≡◌, ◌+◌, ◌<◌, ◌++◌, length, take, arith, rules}
use Rattle.std.specs.List.{flat_map}
use Rattle.cube_image.specs.Bytes.{slot_bytes}
use Rattle.cube_image.specs.Image.{most_bytes}
use Rattle.cube_image.specs.Order.{in_order}
use Rattle.cube_image.proofs.SlotBytes.{slot_put, slots_long}
use Rattle.cube_image.proofs.print.put_slots.Goals as goal

pub returns-then-size-gt-MOST_BYTES-clause-too_long : goal.returns-then-size-gt-MOST_BYTES-clause-too_long
returns-then-size-gt-MOST_BYTES-clause-too_long g c = λ is.
    let next : c.put_slot.new.out.items ≡ c.args.out.now.items ++ flat_map slot_bytes (take (c.loop-i.i + 1) (in_order c.args.arena.now c.args.order.now.places)) =
    slot_put c.args.arena.now c.args.order.now.places c.args.out.now.items c.loop-i.out.items c.make_room.new.out.items c.put_slot.new.out.items c.loop-i.i c.get-place.result.now (omega (arith, c.loop-i-test.true, c.len-count.ensures)) c.get-place.ensures c.loop-i.invariant.is c.make_room.ensures c.in_ok-put_slot.ensures in
    let size : c.len-size.result ≡ length c.put_slot.new.out.items = search rules in
    let long : most_bytes < length c.put_slot.new.out.items = omega (arith, size, c.if-size-gt-MOST_BYTES.true) in
    slots_long c.args.arena.now c.args.order.now.places c.args.out.now.items c.put_slot.new.out.items (c.loop-i.i + 1) next long

pub loop-i-preserved : goal.loop-i-preserved
loop-i-preserved g c =
    let size : c.len-size.result ≡ length c.put_slot.new.out.items = search rules in
    record {
      is = slot_put c.args.arena.now c.args.order.now.places c.args.out.now.items c.loop-i.out.items c.make_room.new.out.items c.put_slot.new.out.items c.loop-i.i c.get-place.result.now (omega (arith, c.loop-i-test.true, c.len-count.ensures)) c.get-place.ensures c.loop-i.invariant.is c.make_room.ensures c.in_ok-put_slot.ensures;
      fits = omega (arith, size, c.if-size-gt-MOST_BYTES.false);
    }
