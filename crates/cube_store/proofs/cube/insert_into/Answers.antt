use Rattle.std.proofs.Common.{List, sym, ap, subst₂}
use Rattle.cube_view.specs.Places.{time_dim}
use Rattle.arena_undo.specs.Worked.{Worked}
use Rattle.node_arena.specs.Slots.{Slot}
use Rattle.proper_path.specs.Paths.{point_path}
use Rattle.cube_store.specs.Inserting.{Inserts}
use Rattle.cube_store.proofs.cube.insert_into.Goals as goal

pub returns-in-Ok-clause-inserted : goal.returns-in-Ok-clause-inserted
returns-in-Ok-clause-inserted c =
    subst₂ (λ (x y : List Slot). Inserts (time_dim c.args.schema.now) (point_path c.args.schema.now c.args.point.now) x y) (ap (λ (w : Worked). w.slots) c.in_ok-work.ensures.begun) (sym c.keep.ensures) c.in-Ok.ensures.inserted
