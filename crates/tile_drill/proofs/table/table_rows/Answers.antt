use Rattle.query_walk.proofs.QueryBoxes.{valid_has_box}
use Rattle.query_syntax.proofs.ValidParts.{hist_known, map_above, series_small}
use Rattle.tile_drill.proofs.table.table_rows.Goals as goal

pub value_rows-requires-clause-has_box : goal.value_rows-requires-clause-has_box
value_rows-requires-clause-has_box g c κs within = valid_has_box (g.V.CubeView.schema c.args.view.now) c.args.query.now c.requires.valid

pub value_rows-requires-clause-category : goal.value_rows-requires-clause-category
value_rows-requires-clause-category g c κs within = hist_known (g.V.CubeView.schema c.args.view.now) c.args.query.now c.requires.valid c.in-Hist.category c.in-Hist.is

pub area_rows-requires-clause-has_box : goal.area_rows-requires-clause-has_box
area_rows-requires-clause-has_box g c κs within = valid_has_box (g.V.CubeView.schema c.args.view.now) c.args.query.now c.requires.valid

pub area_rows-requires-clause-deep : goal.area_rows-requires-clause-deep
area_rows-requires-clause-deep g c κs within = map_above (g.V.CubeView.schema c.args.view.now) c.args.query.now c.requires.valid c.in-Map.levels c.in-Map.is

pub bins_rows-requires-clause-has_box : goal.bins_rows-requires-clause-has_box
bins_rows-requires-clause-has_box g c κs within = valid_has_box (g.V.CubeView.schema c.args.view.now) c.args.query.now c.requires.valid

pub bins_rows-requires-clause-first : goal.bins_rows-requires-clause-first
bins_rows-requires-clause-first g c κs within = (series_small (g.V.CubeView.schema c.args.view.now) c.args.query.now c.requires.valid _ _ _ c.in-Series.is).0

pub bins_rows-requires-clause-wide : goal.bins_rows-requires-clause-wide
bins_rows-requires-clause-wide g c κs within = (series_small (g.V.CubeView.schema c.args.view.now) c.args.query.now c.requires.valid _ _ _ c.in-Series.is).1

pub bins_rows-requires-clause-count : goal.bins_rows-requires-clause-count
bins_rows-requires-clause-count g c κs within = (series_small (g.V.CubeView.schema c.args.view.now) c.args.query.now c.requires.valid _ _ _ c.in-Series.is).2
