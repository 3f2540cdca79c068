use Rattle.std.proofs.Common.{◌-◌}
use Rattle.image_parse.specs.Reading.{slots_at}
use Rattle.image_parse.specs.Views.{kept_if}
use Rattle.image_parse.proofs.Loops.{ReadsOn}
use Rattle.image_parse.proofs.image.take_slots.Given as goal

abbrev pub invariant-loop : goal.invariant-loop
invariant-loop l = ReadsOn (slots_at l.slots l.slots l.fn.next l.bytes) (kept_if l.are_light l.arena) (slots_at (l.slots - l.counter) l.slots l.next l.rest)
