use Rattle.std.proofs.Common.{List, refl}
use Rattle.node_arena.specs.Slots.{Slot, empty_node}
use Rattle.arena_undo.proofs.Trails.{added_made}
use Rattle.arena_undo.proofs.work.Work.add_node.Goals as goal

pub invariant_of-self-2 : goal.invariant_of-self-2
invariant_of-self-2 c = (added_made (λ (s : List Slot). empty_node) c.self.inside.arena _ _ _ _ _ _ _ c.args.self.now c.self.invariant c.self.view_is c.requires refl c.in_ok-id.ensures.added).0

pub returns-clause-added : goal.returns-clause-added
returns-clause-added c = (added_made (λ (s : List Slot). empty_node) c.self.inside.arena _ _ _ _ _ _ _ c.args.self.now c.self.invariant c.self.view_is c.requires refl c.in_ok-id.ensures.added).1
