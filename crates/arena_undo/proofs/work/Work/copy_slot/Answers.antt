use Rattle.std.proofs.Common.{List, refl}
use Rattle.node_arena.specs.Slots.{Slot, slot_of}
use Rattle.node_arena.specs.Calls.{copied}
use Rattle.arena_undo.proofs.Trails.{added_made}
use Rattle.arena_undo.proofs.work.Work.copy_slot.Goals as goal

pub invariant_of-self-2 : goal.invariant_of-self-2
invariant_of-self-2 c = (added_made (λ (s : List Slot). copied (slot_of s c.args.id.0)) c.self.inside.arena _ _ _ _ _ _ _ c.args.self.now c.self.invariant c.self.view_is c.requires.room refl c.in_ok-copy.ensures.copied).0

pub returns-clause-copied : goal.returns-clause-copied
returns-clause-copied c = (added_made (λ (s : List Slot). copied (slot_of s c.args.id.0)) c.self.inside.arena _ _ _ _ _ _ _ c.args.self.now c.self.invariant c.self.view_is c.requires.room refl c.in_ok-copy.ensures.copied).1
