use Rattle.node_arena.proofs.SlotChanges.{slot_from-read}
use Rattle.node_arena.proofs.arena.Arena.counted_slot.Goals as goal

pub returns-clause-slot : goal.returns-clause-slot
returns-clause-slot g c = slot_from-read c.self.inside.slots c.args.self.now c.args.i c.get.result.now c.self.view_is c.requires c.get.ensures.item
