use Rattle.std.proofs.Common.{◌+◌, ◌-◌, ◌*◌, length}
use Rattle.cube_view.specs.Places.{time_dim}
use Rattle.proper_path.specs.Paths.{point_path}
use Rattle.proper_path.specs.Rooted.{places_of}
use Rattle.point_insert.specs.Visited.{Leaves}
use Rattle.point_insert.proofs.ChangeAllowance.{IsSpending}
use Rattle.point_insert.proofs.adding.+insertion.Given as goal

abbrev pub decreases-add_in : goal.decreases-add_in
decreases-add_in g l = 4 * (time_dim l.schema.now - l.dim) + 1

abbrev pub decreases-fill : goal.decreases-fill
decreases-fill g l = 4 * (time_dim l.schema.now - l.dim) + 2

abbrev pub decreases-update : goal.decreases-update
decreases-update g l = 4 * (time_dim l.schema.now - l.dim) + 3

abbrev pub decreases-visit : goal.decreases-visit
decreases-visit g l = 4 * (time_dim l.schema.now - l.dim)

abbrev pub invariant-add_in-loop-at : goal.invariant-add_in-loop-at
invariant-add_in-loop-at g l = record {
  left : Leaves (time_dim l.schema) (point_path l.schema l.point) l.fn.work.slots l.work.slots l.fn.updated l.updated l.dim l.fn.root.0 (places_of l.stack);
  spending : IsSpending l.schema l.dim (length l.stack) l.fn.work l.work;
}

abbrev pub decreases-add_in-loop-at : goal.decreases-add_in-loop-at
decreases-add_in-loop-at g l = length l.stack
