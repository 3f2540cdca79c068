use Rattle.std.proofs.Common.{◌∙◌, ap, arith}
use Rattle.cube_view.specs.Places.{next_dim}
use Rattle.cube_view.specs.declared.address.Address.{Address}
use Rattle.query_syntax.specs.Parts.{with_region}
use Rattle.query_walk.specs.Costs.{choices_from, rest_cost}
use Rattle.query_walk.proofs.CategoryCosts.{onward_is}
use Rattle.query_walk.proofs.Sets.{box_is, none_in_bag}
use Rattle.query_walk.proofs.Valid.{has_choices}
use Rattle.query_walk.proofs.tile.total_in_tile.Goals as goal

pub total_from-requires-clause-choices : goal.total_from-requires-clause-choices
total_from-requires-clause-choices g c κs within = has_choices (g.V.CubeView.schema c.args.view.now) c.args.query.now c.requires.has_box

pub returns-in-Some-clause-total : goal.returns-in-Some-clause-total
returns-in-Some-clause-total g c h counts =
    c.total_from.ensures.total h counts ∙ box_is (g.V.CubeView.schema c.args.view.now) (with_region c.args.query.now c.args.tile.now) h _ _ c.requires.place c.in-Some.ensures.place.1

pub returns-in-None-clause-total : goal.returns-in-None-clause-total
returns-in-None-clause-total g c h counts = none_in_bag (g.V.CubeView.schema c.args.view.now) (with_region c.args.query.now c.args.tile.now) h (c.in-None.ensures.found h counts)

pub returns-in-Some-clause-cost : goal.returns-in-Some-clause-cost
returns-in-Some-clause-cost g c h counts =
    let z = g.V.CubeView.schema c.args.view.now in
    let costs = g.V.CubeView.costs c.args.view.now in
    let q = c.args.query.now in
    let whole = onward_is costs z h q c.args.tile.now (c.in-Some.ensures.found h counts) in
    let here = ap (λ (a : Address). rest_cost costs z h (choices_from z q 0) a) (c.in-Some.ensures.place.1 ∙ ap next_dim c.requires.place) in
    let rest = c.total_from.ensures.cost h counts in
    omega (arith, whole, here, c.in-Some.ensures.cost, rest)

pub returns-in-None-clause-cost : goal.returns-in-None-clause-cost
returns-in-None-clause-cost g c h counts = omega (arith, c.in-None.ensures.cost)
