use Rattle.std.proofs.lemmas.Result.{on_ok_weaker}
use Rattle.node_arena.specs.Slots.{Slot}
use Rattle.node_arena.specs.Calls.{with_run}
use Rattle.node_arena.proofs.SlotChanges.{map-slot_from-set}
use Rattle.node_arena.proofs.arena.Arena.table_add_run.Goals as goal

pub returns-clause-added : goal.returns-clause-added
returns-clause-added c =
    on_ok_weaker c.add_run.result
    (map-slot_from-set c.self.inside.slots c.args.self.now _ _ c.add_run.new.self (λ (s : Slot). with_run s c.args.run.now) c.self.view_is c.requires.in_range c.get_mut-slot.ensures.value)
    c.add_run.ensures.added
