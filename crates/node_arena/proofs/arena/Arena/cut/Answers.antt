use Rattle.std.proofs.Common.{ap, ◌∙◌, map}
use Rattle.node_arena.specs.Stored.{slot_from}
use Rattle.node_arena.proofs.SlotChanges.{map-slot_from-take}
use Rattle.node_arena.proofs.arena.Arena.cut.Goals as goal

pub returns : goal.returns
returns c = ap (map slot_from) c.cut.ensures ∙ map-slot_from-take c.self.inside.slots c.args.self.now c.args.len c.self.view_is
