use Rattle.std.proofs.Common.{◌∷◌, ◌++◌, ◌≤◌, [], ◌∙◌, ap, arith, ℕ, refl, subst, sym}
use Rattle.top_call.proofs.Points.{counts_none, counts_on}
use Rattle.cube_view.specs.Bag.{Counts}
use Rattle.feed_reader.specs.Rows.{row_of_line}
use Rattle.outer_io.proofs.ProgressLaws.{passes_none, passes_on}
use Rattle.top_call.proofs.demo.loading.keep_points.Goals as goal

pub loop-row-init : goal.loop-row-init
loop-row-init g c = (
  [],
  passes_none g.S.Source.left g.S.Source.faults c.args.cutter.now,
  c.requires.going,
  refl,
  counts_none (Counts (g.V.CubeView.weight_at c.args.cube.now) (g.V.CubeView.seen c.args.cube.now)),
  c.requires.few,
)

pub loop-row-preserved : goal.loop-row-preserved
loop-row-preserved g c =
    let so_far = c.loop-row.invariant in
    let next = rw c.in-Some.is at c.in_ok-row.ensures.row in
    let number = next.1.given ∙ next.1.counts in (
      so_far.0 ++ next.0 ∷ [],
      passes_on _ _ _ _ _ _ _ so_far.1 next.1.passed,
      next.1.goes_on,
      c.in_ok-keep_point.ensures.schema ∙ so_far.3,
      counts_on (Counts (g.V.CubeView.weight_at c.args.cube.now) (g.V.CubeView.seen c.args.cube.now)) (Counts (g.V.CubeView.weight_at c.loop-row.cube) (g.V.CubeView.seen c.loop-row.cube)) (Counts (g.V.CubeView.weight_at c.keep_point.new.cube) (g.V.CubeView.seen c.keep_point.new.cube))
          (row_of_line (g.V.CubeView.schema c.args.cube.now) c.args.header.now.places) so_far.0 next.0 c.in-Some.row
          so_far.4 (next.2 ∙ ap (λ s. row_of_line s c.args.header.now.places next.0) (c.schema.ensures ∙ so_far.3)) c.in_ok-keep_point.ensures.kept,
      subst (λ (n : ℕ). g.V.CubeView.seen c.keep_point.new.cube ≤ n) (sym number) (omega (arith, c.in_ok-keep_point.ensures.few, so_far.5)),
    )
