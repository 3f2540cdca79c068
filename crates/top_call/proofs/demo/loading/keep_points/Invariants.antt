use Rattle.std.proofs.Common.{◌≡◌, ◌-◌, ◌≤◌, List, map}
use Rattle.cube_view.specs.Bag.{Counts, CountsMore}
use Rattle.feed_reader.specs.Feeds.{points_in}
use Rattle.feed_reader.specs.Rows.{row_of_line}
use Rattle.outer_io.specs.Lines.{Line, input_limit}
use Rattle.outer_io.specs.Progress.{Passes, IsGoing}
use Rattle.top_call.proofs.demo.loading.keep_points.Given as goal

abbrev pub invariant-loop-row : goal.invariant-loop-row
invariant-loop-row g l =
    (lines : List Line) × Passes g.S.Source.left g.S.Source.faults l.initial.cutter l.cutter lines × IsGoing l.cutter
    × (g.V.CubeView.schema l.cube ≡ g.V.CubeView.schema l.initial.cube)
    × CountsMore (Counts (g.V.CubeView.weight_at l.initial.cube) (g.V.CubeView.seen l.initial.cube)) (Counts (g.V.CubeView.weight_at l.cube) (g.V.CubeView.seen l.cube)) (points_in (map (row_of_line (g.V.CubeView.schema l.initial.cube) l.header.places) lines))
    × (g.V.CubeView.seen l.cube ≤ l.cutter.given)

abbrev pub decreases-loop-row : goal.decreases-loop-row
decreases-loop-row g l = input_limit - l.cutter.given
