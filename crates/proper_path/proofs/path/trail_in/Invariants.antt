use Rattle.std.proofs.Common.{◌≡◌, ◌*◌}
use Rattle.cube_view.specs.Places.{deepest, time_dim}
use Rattle.cube_view.specs.Points.{spot_of}
use Rattle.cube_view.specs.Paths.{path_of}
use Rattle.proper_path.specs.Paths.{point_path}
use Rattle.proper_path.specs.Rooted.{MakesTrail, places_of}
use Rattle.proper_path.specs.Stepped.{KeepsRoom}
use Rattle.proper_path.proofs.path.trail_in.Given as goal

abbrev pub invariant-loop-above : goal.invariant-loop-above
invariant-loop-above g l = record {
  made : MakesTrail (time_dim l.schema) (point_path l.schema l.point) l.fn.work.slots l.work.slots l.dim l.fn.root.0 l.at.0 l.above (path_of l.schema (spot_of l.point) l.dim) (places_of l.stack);
  changes : KeepsRoom (2 * l.above) l.fn.work l.work;
  levels : l.above-end ≡ deepest l.schema l.dim;
}
