use Rattle.node_arena.specs.Slots.{Slot}
use Rattle.node_arena.specs.Calls.{relink}
use Rattle.node_arena.proofs.SlotChanges.{map-slot_from-set}
use Rattle.node_arena.proofs.arena.Arena.set_child.Goals as goal

pub returns-clause-set : goal.returns-clause-set
returns-clause-set c = map-slot_from-set c.self.inside.slots c.args.self.now _ _ c.set_child.new.self (λ (s : Slot). relink s c.args.label c.args.link) c.self.view_is c.requires.in_range c.get_mut-slot.ensures.value c.set_child.ensures.set
