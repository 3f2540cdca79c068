use Rattle.std.proofs.Common.{◌∙◌, refl, arith}
use Rattle.cube_view.proofs.TileWays.{tile_at-zero}
use Rattle.query_walk.proofs.WaysDown.{none_here, found_next, next_place, paid_further, paid_at_end}
use Rattle.query_walk.proofs.region.region_cursor.Goals as goal

pub loop-level-init : goal.loop-level-init
loop-level-init g c = record {
  stands = c.top-cursor.ensures.stands;
  place = c.top-cursor.ensures.place ∙ tile_at-zero c.args.tile.now c.requires.within.0 c.requires.within.1;
  found = λ h counts. refl;
  cost = λ h counts. omega arith;
}

pub returns-in_err-cursor-clause-none : goal.returns-in_err-cursor-clause-none
returns-in_err-cursor-clause-none g c = rw c.from_residual.ensures (λ h counts. none_here (g.V.CubeView.schema c.args.view.now) c.args.tile.now c.loop-level.level _ c.tile_label.result c.loop-level.invariant.place c.tile_label.ensures.label c.loop-level-test.true h c.requires.deep (c.in_err-cursor.ensures.found h counts))

pub returns-in_err-cursor-clause-cost : goal.returns-in_err-cursor-clause-cost
returns-in_err-cursor-clause-cost g c h counts =
    paid_at_end (g.V.CubeView.costs c.args.view.now) (g.V.CubeView.schema c.args.view.now) h c.args.tile.now c.loop-level.level _ c.loop-level.invariant.place (c.loop-level.invariant.found h counts) _ _ _ c.loop-level-test.true (c.loop-level.invariant.cost h counts) c.in_err-cursor.ensures.cost

pub loop-level-preserved : goal.loop-level-preserved
loop-level-preserved g c =
    let z = g.V.CubeView.schema c.args.view.now in
    record {
      stands = c.in_ok-cursor.ensures.place.0;
      place = next_place z c.args.tile.now c.loop-level.level _ c.tile_label.result c.loop-level.invariant.place c.tile_label.ensures.label c.loop-level-test.true _ c.in_ok-cursor.ensures.place.1;
      found = λ h counts. found_next z c.args.tile.now c.loop-level.level _ c.tile_label.result c.loop-level.invariant.place c.tile_label.ensures.label c.loop-level-test.true h c.requires.deep (c.in_ok-cursor.ensures.found h counts);
      cost = λ h counts. paid_further (g.V.CubeView.costs c.args.view.now) z h c.args.tile.now c.loop-level.level _ c.loop-level.invariant.place (c.loop-level.invariant.found h counts) _ _ _ (c.loop-level.invariant.cost h counts) c.in_ok-cursor.ensures.cost;
    }
