use Rattle.std.proofs.Common.{sym, ◌∙◌, ap, subst, arith}
use Rattle.cross_table.proofs.Pairs.{pair_asked, pair_not_asked, value_small}
use Rattle.query_syntax.specs.Boxes.{box, total}
use Rattle.query_syntax.specs.Parts.{with_one_value}
use Rattle.query_syntax.specs.Narrowing.{with_value}
use Rattle.query_syntax.specs.declared.query.Query.{Query}
use Rattle.query_walk.specs.Costs.{from_region_cost}
use Rattle.query_walk.specs.Walks.{HasWalked}
use Rattle.query_walk.proofs.Regions.{walked_value}
use Rattle.cross_table.proofs.cross.total_of_pair.Goals as goal

pub returns-then-not-has-clause-total : goal.returns-then-not-has-clause-total
returns-then-not-has-clause-total g c h counts =
    pair_not_asked (g.V.CubeView.schema c.args.view.now) c.args.query.now h c.args.first.category c.args.second.category c.args.first.value c.args.second.value c.requires.walk.has_box c.requires.first c.requires.second _ (sym c.has.ensures ∙ c.if-not-has.true)

pub value_total-requires-clause-walk : goal.value_total-requires-clause-walk
value_total-requires-clause-walk g c κs within =
    let V = g.V.CubeView in
    let view = c.args.view.now in
    let z = V.schema view in
    let first = c.requires.first in
    let walked = walked_value _ _ z c.args.query.now (V.stands view) (V.address view) c.args.region c.requires.walk c.args.first.category c.args.first.value first.0 (value_small z c.args.first.category c.args.first.value first) in
    subst (λ (q : Query). HasWalked (V.weight_at view) (V.seen view) z q (V.stands view) (V.address view) c.args.region) (sym c.requires.alone) walked

pub returns-clause-total : goal.returns-clause-total
returns-clause-total g c h counts =
    let z = g.V.CubeView.schema c.args.view.now in
    c.value_total.ensures.total h counts
    ∙ (ap (λ (p : Query). total z (with_value (box p) c.args.second.category c.args.second.value) h) c.requires.alone
    ∙ pair_asked z c.args.query.now h c.args.first.category c.args.second.category c.args.first.value c.args.second.value c.requires.walk.has_box c.requires.first c.requires.second _ (sym c.has.ensures ∙ c.if-not-has.false))

pub returns-clause-cost : goal.returns-clause-cost
returns-clause-cost g c h counts =
    let z = g.V.CubeView.schema c.args.view.now in
    let same = ap (λ (p : Query). from_region_cost (g.V.CubeView.costs c.args.view.now) z h (with_one_value p c.args.second.category c.args.second.value)) c.requires.alone in
    let step = c.value_total.ensures.cost h counts in
    omega (arith, same, step)
