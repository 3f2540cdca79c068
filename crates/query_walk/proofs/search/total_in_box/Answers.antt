use Rattle.std.proofs.Common.{arith}
use Rattle.query_walk.proofs.Addresses.{walk_within}
use Rattle.query_walk.proofs.QueryBoxes.{region_deep, region_within}
use Rattle.query_walk.proofs.search.total_in_box.Goals as goal

pub region_cursor-region-requires-clause-deep : goal.region_cursor-region-requires-clause-deep
region_cursor-region-requires-clause-deep g c κs within = region_deep (g.V.CubeView.schema c.args.view.now) c.args.query.now c.requires.has_box

pub region_cursor-region-requires-clause-within : goal.region_cursor-region-requires-clause-within
region_cursor-region-requires-clause-within g c κs within = region_within (g.V.CubeView.schema c.args.view.now) c.args.query.now c.requires.has_box

pub total_in_region-requires-clause-walk : goal.total_in_region-requires-clause-walk
total_in_region-requires-clause-walk g c κs within = record {
  has_box = c.requires.has_box;
  place = c.region_cursor-region.ensures.place;
  found = c.region_cursor-region.ensures.found;
  none = c.region_cursor-region.ensures.none;
}

pub returns-clause-cost : goal.returns-clause-cost
returns-clause-cost g c h counts =
    let within = walk_within (g.V.CubeView.costs c.args.view.now) (g.V.CubeView.schema c.args.view.now) h c.args.query.now c.requires.has_box in
    let space = c.region_cursor-region.ensures.cost h counts in
    let rest = c.total_in_region.ensures.cost h counts in
    omega (arith, within, space, rest)
