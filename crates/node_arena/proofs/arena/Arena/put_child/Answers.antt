use Rattle.std.proofs.lemmas.Result.{on_ok_weaker}
use Rattle.node_arena.specs.Slots.{Slot}
use Rattle.node_arena.specs.Calls.{put}
use Rattle.node_arena.proofs.SlotChanges.{map-slot_from-set}
use Rattle.node_arena.proofs.arena.Arena.put_child.Goals as goal

pub returns-clause-put : goal.returns-clause-put
returns-clause-put c =
    on_ok_weaker c.put_child.result
    (map-slot_from-set c.self.inside.slots c.args.self.now _ _ c.put_child.new.self (λ (s : Slot). put s c.args.label c.args.link) c.self.view_is c.requires.in_range c.get_mut-slot.ensures.value)
    c.put_child.ensures.put
