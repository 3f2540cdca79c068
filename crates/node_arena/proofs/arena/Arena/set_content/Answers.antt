use Rattle.node_arena.specs.Slots.{Slot}
use Rattle.node_arena.specs.Calls.{with_content}
use Rattle.node_arena.proofs.SlotChanges.{map-slot_from-set}
use Rattle.node_arena.proofs.arena.Arena.set_content.Goals as goal

pub returns-clause-set : goal.returns-clause-set
returns-clause-set c = map-slot_from-set c.self.inside.slots c.args.self.now _ _ c.set_content.new.self (λ (s : Slot). with_content s c.args.link) c.self.view_is c.requires.in_range c.get_mut-slot.ensures.value c.set_content.ensures.set
