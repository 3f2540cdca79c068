use Rattle.std.proofs.Common.{List, ap, sym, subst, subst₂}
use Rattle.arena_undo.specs.Worked.{Worked}
use Rattle.node_arena.specs.Slots.{Slot}
use Rattle.cube_store.specs.Counted.{AddsLeast, HasPoints}
use Rattle.cube_store.proofs.batch.insert_group.Goals as goal

pub add_all-requires-clause-counted : goal.add_all-requires-clause-counted
add_all-requires-clause-counted c = subst (λ (a : List Slot). HasPoints c.args.schema.now a c.args.root.0 c.args.size) (sym (ap (λ (w : Worked). w.slots) c.in_ok-work.ensures.begun)) c.requires.counted

pub returns-in-Ok-clause-least : goal.returns-in-Ok-clause-least
returns-in-Ok-clause-least c = subst₂ (λ (a b : List Slot). AddsLeast c.args.schema.now c.args.root.0 c.args.size c.args.points.now a b) (ap (λ (w : Worked). w.slots) c.in_ok-work.ensures.begun) (sym c.keep.ensures) c.in-Ok.ensures.least
