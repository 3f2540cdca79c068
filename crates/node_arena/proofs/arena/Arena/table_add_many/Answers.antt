use Rattle.std.proofs.lemmas.Result.{on_ok_weaker}
use Rattle.node_arena.specs.Slots.{Slot}
use Rattle.node_arena.specs.Calls.{with_many}
use Rattle.node_arena.proofs.SlotChanges.{map-slot_from-set}
use Rattle.node_arena.proofs.arena.Arena.table_add_many.Goals as goal

pub returns-clause-added : goal.returns-clause-added
returns-clause-added c =
    on_ok_weaker c.add_many.result
    (map-slot_from-set c.self.inside.slots c.args.self.now _ _ c.add_many.new.self (λ (s : Slot). with_many s c.args.bin c.args.amount) c.self.view_is c.requires.in_range c.get_mut-slot.ensures.value)
    c.add_many.ensures.added
