use Rattle.node_arena.specs.Slots.{Slot}
use Rattle.node_arena.specs.Calls.{unlink}
use Rattle.node_arena.proofs.SlotChanges.{map-slot_from-set}
use Rattle.node_arena.proofs.arena.Arena.drop_child.Goals as goal

pub returns-clause-dropped : goal.returns-clause-dropped
returns-clause-dropped c = map-slot_from-set c.self.inside.slots c.args.self.now _ _ c.drop_child.new.self (λ (s : Slot). unlink s c.args.label) c.self.view_is c.requires.in_range c.get_mut-slot.ensures.value c.drop_child.ensures.dropped
