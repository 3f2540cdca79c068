use Rattle.std.proofs.Common.{◌≡◌, ◌++◌, length, Err, refl, sym, ap, ◌∙◌, arith}
use Rattle.std.proofs.lemmas.Result.{err_from_is_err_and}
use Rattle.std.specs.List.{flat_map}
use Rattle.cube_image.specs.declared.fault.SaveFault.{SaveFault}
use Rattle.cube_image.specs.declared.fault.SaveFault.TheVariants.{TooLong}
use Rattle.cube_image.specs.Bytes.{slot_bytes}
use Rattle.cube_image.specs.Order.{in_order}
use Rattle.cube_image.proofs.SlotBytes.{readable, head_few, image_long, image_put, image_written}
use Rattle.cube_image.proofs.save.write_in.Goals as goal

pub order_of-requires-clause-readable : goal.order_of-requires-clause-readable
order_of-requires-clause-readable g c = readable c.args.arena.now c.requires.homes c.requires.rising

pub put_slots-requires-clause-able : goal.put_slots-requires-clause-able
put_slots-requires-clause-able g c = record { numbered = c.in_ok-order.ensures.all; readable = readable c.args.arena.now c.requires.homes c.requires.rising }

pub put_slots-requires-clause-few : goal.put_slots-requires-clause-few
put_slots-requires-clause-few g c = head_few c.args.size c.len.result c.new-out.result.items c.put_head.new.out.items c.new-out.ensures.items c.in_ok-put_head.ensures

pub returns-in_err-put_slots-clause-too_long : goal.returns-in_err-put_slots-clause-too_long
returns-in_err-put_slots-clause-too_long g c = λ is.
    let p = err_from_is_err_and c.from_residual-in_err-put_slots.result c.from_residual-in_err-put_slots.ensures.1 in
    let q = sym p.1 ∙ is in
    let same : p.0 ≡ TooLong = cc in
    let all = c.put_head.new.out.items ++ flat_map slot_bytes (in_order c.args.arena.now c.in_ok-order.order.places) in
    image_long c.args.arena.now c.args.size c.in_ok-order.order.places all c.in_ok-order.ensures.order
    (c.in_err-put_slots.ensures.too_long (ap (λ (fault : SaveFault). Err fault) (sym p.2 ∙ same)))
    (image_put c.args.arena.now c.args.size c.len.result c.in_ok-order.order.places c.new-out.result.items c.put_head.new.out.items all all c.new-out.ensures.items c.in_ok-put_head.ensures c.len.ensures refl refl)

pub returns-clause-written : goal.returns-clause-written
returns-clause-written g c =
    let size = ap length c.from_vec.ensures in
    image_written c.args.arena.now c.args.size c.in_ok-order.order.places c.from_vec.result c.in_ok-order.ensures.order (omega (arith, size, c.in_ok-put_slots.ensures.fits))
    (image_put c.args.arena.now c.args.size c.len.result c.in_ok-order.order.places c.new-out.result.items c.put_head.new.out.items c.put_slots.new.out.items c.from_vec.result c.new-out.ensures.items c.in_ok-put_head.ensures c.len.ensures c.in_ok-put_slots.ensures.put c.from_vec.ensures)
