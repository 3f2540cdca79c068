use Rattle.std.proofs.Common.{Bool, subst}
use Rattle.std.proofs.lemmas.Result.{err_from_is_err_and}
use Rattle.image_parse.specs.Reading.{slots_at}
use Rattle.image_parse.specs.Views.{HasSlots, kept_if, slot_parsed}
use Rattle.image_parse.proofs.Loops.{slot_goes, slot_ends, slots_done}
use Rattle.image_parse.proofs.image.take_slots.Goals as goal

pub returns-in_err-slot : goal.returns-in_err-slot
returns-in_err-slot c =
    let p = err_from_is_err_and c.from_residual.result c.from_residual.ensures.1 in
    rw (p.1, p.2) (slot_ends c.in_err-slot.field-0.0 c.args.slots c.loop.counter c.args.slots c.loop.next c.loop.rest.now (slots_at c.args.slots c.args.slots c.args.next.now c.args.bytes.now) (kept_if c.loop.are_light c.loop.arena) c.loop-test.true c.in_err-slot.ensures.read c.loop.invariant)

pub loop-preserved : goal.loop-preserved
loop-preserved c = slot_goes c.args.slots c.loop.counter c.args.slots c.loop.next c.loop.rest.now (slot_parsed c.take_slot.new.room c.in_ok-slot.slot) c.take_slot.new.next c.in_ok-slot.after.now (slots_at c.args.slots c.args.slots c.args.next.now c.args.bytes.now) (kept_if c.loop.are_light c.loop.arena) (kept_if c.in_ok-are_light.are_light c.add_slot.new.arena) c.loop-test.true c.in_ok-slot.ensures.read c.in_ok-are_light.ensures c.loop.invariant

pub returns-then-are_light : goal.returns-then-are_light
returns-then-are_light c = subst (λ (l : Bool). HasSlots (slots_at c.args.slots c.args.slots c.args.next.now c.args.bytes.now) (kept_if l c.loop.arena) c.loop.next c.loop.rest.now) c.if-are_light.true (slots_done c.args.slots c.loop.counter c.args.slots c.loop.next c.loop.rest.now (slots_at c.args.slots c.args.slots c.args.next.now c.args.bytes.now) (kept_if c.loop.are_light c.loop.arena) c.loop-test.false c.loop.invariant)

pub returns : goal.returns
returns c = subst (λ (l : Bool). HasSlots (slots_at c.args.slots c.args.slots c.args.next.now c.args.bytes.now) (kept_if l c.loop.arena) c.loop.next c.loop.rest.now) c.if-are_light.false (slots_done c.args.slots c.loop.counter c.args.slots c.loop.next c.loop.rest.now (slots_at c.args.slots c.args.slots c.args.next.now c.args.bytes.now) (kept_if c.loop.are_light c.loop.arena) c.loop-test.false c.loop.invariant)
