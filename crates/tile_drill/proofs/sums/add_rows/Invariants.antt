use Rattle.cube_view.specs.Bag.{EachCounted}
use Rattle.tile_drill.specs.Series.{row_under}
use Rattle.tile_drill.proofs.SumGains.{GainsUnder}
use Rattle.tile_drill.proofs.sums.add_rows.Given as goal

-- the sums under i have gained what their rows have
abbrev pub invariant-loop-i : goal.invariant-loop-i
invariant-loop-i g l = record {
  sums : EachCounted (g.V.CubeView.weight_at l.view) (g.V.CubeView.seen l.view) (GainsUnder (row_under (g.V.CubeView.schema l.view) l.series (g.V.CubeView.address l.view l.fn.cursor)) l.initial.sums l.sums l.i);
}
