use Rattle.std.proofs.Common.{◌≡◌, map}
use Rattle.std.specs.List.{range_with_len}
use Rattle.cube_view.specs.Bag.{EachCounted}
use Rattle.query_syntax.specs.Tables.{bins_row}
use Rattle.tile_drill.proofs.bins.bins_rows.Given as goal

abbrev pub invariant-loop-i : goal.invariant-loop-i
invariant-loop-i g l = record {
  rows : EachCounted (g.V.CubeView.weight_at l.view) (g.V.CubeView.seen l.view) (λ h. l.rows ≡ map (bins_row (g.V.CubeView.schema l.view) l.query h l.first l.wide) (range_with_len 0 l.i));
}
