use Rattle.std.proofs.Common.{arith}
use Rattle.cube_view.proofs.StepCosts.{cost_if-true}
use Rattle.cube_view.specs.Costs.{is_found}
use Rattle.query_walk.specs.Costs.{onward_cost}
use Rattle.query_walk.proofs.Regions.{walked_place, walked_found, walked_none}
use Rattle.query_walk.proofs.Sets.{none_in_region}
use Rattle.query_walk.proofs.tile.total_in_region.Goals as goal

pub total_in_tile-requires-clause-stands : goal.total_in_tile-requires-clause-stands
total_in_tile-requires-clause-stands g c κs within = (walked_place _ _ _ _ _ _ _ c.requires.walk c.in-Some.cursor c.in-Some.is).0

pub total_in_tile-requires-clause-place : goal.total_in_tile-requires-clause-place
total_in_tile-requires-clause-place g c κs within = (walked_place _ _ _ _ _ _ _ c.requires.walk c.in-Some.cursor c.in-Some.is).1

pub returns-in-Some-clause-cost : goal.returns-in-Some-clause-cost
returns-in-Some-clause-cost g c h counts =
    let z = g.V.CubeView.schema c.args.view.now in
    let q = c.args.query.now in
    let found = walked_found _ _ _ _ _ _ _ c.requires.walk c.in-Some.cursor c.in-Some.is h counts in
    let all = cost_if-true (is_found z h q.region) (onward_cost (g.V.CubeView.costs c.args.view.now) z h q q.region) found in
    let rest = c.total_in_tile.ensures.cost h counts in
    omega (arith, all, rest)

pub returns-in-None-clause-total : goal.returns-in-None-clause-total
returns-in-None-clause-total g c h counts = none_in_region (g.V.CubeView.schema c.args.view.now) c.args.query.now h (walked_none _ _ _ _ _ _ _ c.requires.walk c.in-None.is h counts)
