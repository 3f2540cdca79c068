use Rattle.std.proofs.Common.{◌+◌, ◌∙◌, ap, arith}
use Rattle.cube_view.proofs.PointWeights.{IsBag-small}
use Rattle.cube_view.specs.Places.{next_dim}
use Rattle.cube_view.specs.declared.address.Address.{Address}
use Rattle.query_walk.proofs.QueryBoxes.{region_deep, region_within}
use Rattle.query_walk.proofs.Valid.{has_choices}
use Rattle.query_walk.specs.Costs.{choices_from, walk_cost}
use Rattle.tile_drill.specs.Costs.{ends_cost}
use Rattle.tile_drill.proofs.RowCosts.{series_across, series_found}
use Rattle.tile_drill.proofs.Rows.{fits_zeros, totals_none_in_bag, totals_none_in_region, totals_of_walk}
use Rattle.tile_drill.proofs.bins.add_all.Goals as goal

pub region_cursor-requires-clause-deep : goal.region_cursor-requires-clause-deep
region_cursor-requires-clause-deep g c κs within = region_deep (g.V.CubeView.schema c.args.view.now) c.args.series.now.query c.requires.has_box

pub region_cursor-requires-clause-within : goal.region_cursor-requires-clause-within
region_cursor-requires-clause-within g c κs within = region_within (g.V.CubeView.schema c.args.view.now) c.args.series.now.query c.requires.has_box

pub returns-in_default-clause-totals : goal.returns-in_default-clause-totals
returns-in_default-clause-totals g c h counts = totals_none_in_region (g.V.CubeView.schema c.args.view.now) c.args.series.now h c.args.sums.now c.requires.zeros (c.in_default.ensures.none h counts)

pub returns-in_default-clause-cost : goal.returns-in_default-clause-cost
returns-in_default-clause-cost g c h counts = let space = c.in_default.ensures.cost h counts in omega (arith, space)

pub add_from-requires-clause-choices : goal.add_from-requires-clause-choices
add_from-requires-clause-choices g c κs within = has_choices (g.V.CubeView.schema c.args.view.now) c.args.series.now.query c.requires.has_box

pub add_from-requires-clause-fits : goal.add_from-requires-clause-fits
add_from-requires-clause-fits g c κs within h counts =
    fits_zeros h _ c.args.sums.now c.args.series.now.rows c.requires.zeros (IsBag-small _ _ (g.met.V.CubeView.bag c.args.view.now) h counts)

pub returns-in-Some-across-clause-totals : goal.returns-in-Some-across-clause-totals
returns-in-Some-across-clause-totals g c h counts =
    totals_of_walk (g.V.CubeView.schema c.args.view.now) c.args.series.now h c.args.sums.now c.requires.zeros _ _ _ c.in-Some.ensures.place.1 c.in-Some-across.ensures.place.1 (c.add_from.ensures.sums h counts)

pub returns-in-Some-across-clause-cost : goal.returns-in-Some-across-clause-cost
returns-in-Some-across-clause-cost g c h counts =
    let z = g.V.CubeView.schema c.args.view.now in
    let costs = g.V.CubeView.costs c.args.view.now in
    let s = c.args.series.now in
    let whole = series_across costs z h s.query s.rows (c.in-Some.ensures.found h counts) (c.in-Some-across.ensures.found h counts) in
    let here = ap (λ (a : Address). walk_cost costs z h (ends_cost costs (s.rows + 1)) (choices_from z s.query 0) a) (c.in-Some-across.ensures.place.1 ∙ ap next_dim c.in-Some.ensures.place.1) in
    let space = c.in-Some.ensures.cost h counts in
    let rest = c.add_from.ensures.cost h counts in
    omega (arith, whole, here, space, c.in-Some-across.ensures.cost, rest)

pub returns-in-None-clause-totals : goal.returns-in-None-clause-totals
returns-in-None-clause-totals g c h counts = totals_none_in_bag (g.V.CubeView.schema c.args.view.now) c.args.series.now h c.args.sums.now c.requires.zeros (c.in-None.ensures.found h counts)

pub returns-in-None-clause-cost : goal.returns-in-None-clause-cost
returns-in-None-clause-cost g c h counts =
    let found = series_found (g.V.CubeView.costs c.args.view.now) (g.V.CubeView.schema c.args.view.now) h c.args.series.now.query c.args.series.now.rows (c.in-Some.ensures.found h counts) in
    let space = c.in-Some.ensures.cost h counts in
    omega (arith, found, space, c.in-None.ensures.cost)
