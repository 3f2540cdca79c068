use Rattle.node_arena.specs.Slots.{Slot}
use Rattle.node_arena.specs.Calls.{without_many}
use Rattle.node_arena.proofs.SlotChanges.{map-slot_from-set}
use Rattle.node_arena.proofs.arena.Arena.table_take.Goals as goal

pub returns : goal.returns
returns c = map-slot_from-set c.self.inside.slots c.args.self.now _ _ c.take_one.new.self (λ (s : Slot). without_many s c.args.bin 1) c.self.view_is c.requires.in_range c.get_mut-slot.ensures.value c.take_one.ensures
