use Rattle.std.proofs.Common.{true, false, sym, ◌∙◌, ap, subst, arith}
use Rattle.cube_view.proofs.SchemaBounds.{few_categories}
use Rattle.query_syntax.specs.Boxes.{box, total}
use Rattle.query_syntax.proofs.TableLaws.{box_value, box_value_out}
use Rattle.query_syntax.specs.declared.query.Query.{Query}
use Rattle.query_walk.specs.Costs.{from_region_cost}
use Rattle.query_walk.specs.Walks.{HasWalked}
use Rattle.query_walk.proofs.OneValue.{chosen_at}
use Rattle.query_walk.proofs.Regions.{walked_value}
use Rattle.query_walk.proofs.value.value_total.Goals as goal

pub returns-then-not-has-clause-total : goal.returns-then-not-has-clause-total
returns-then-not-has-clause-total g c h counts =
    let z = g.V.CubeView.schema c.args.view.now in
    let is_out = chosen_at z c.args.query.now c.args.category c.args.value _ false c.requires.walk.has_box c.requires.category (sym c.has.ensures ∙ c.if-not-has.true) in
    sym (box_value_out z c.args.query.now h c.args.category c.args.value is_out)

pub total_in_region-requires-clause-walk : goal.total_in_region-requires-clause-walk
total_in_region-requires-clause-walk g c κs within =
    let z = g.V.CubeView.schema c.args.view.now in
    let V = g.V.CubeView in
    let walked = walked_value _ _ z c.args.query.now (V.stands c.args.view.now) (V.address c.args.view.now) c.args.region c.requires.walk c.args.category c.args.value c.requires.category c.ranges.value.fits in
    subst (λ (q : Query). HasWalked (V.weight_at c.args.view.now) (V.seen c.args.view.now) z q (V.stands c.args.view.now) (V.address c.args.view.now) c.args.region) (sym c.set_one_value.ensures) walked

pub returns-clause-total : goal.returns-clause-total
returns-clause-total g c h counts =
    let z = g.V.CubeView.schema c.args.view.now in
    let q = c.args.query.now in
    let few = few_categories z in
    let wide = c.requires.walk.has_box.wide in
    let is_in = chosen_at z q c.args.category c.args.value _ true c.requires.walk.has_box c.requires.category (sym c.has.ensures ∙ c.if-not-has.false) in
    c.total_in_region.ensures.total h counts
    ∙ (ap (λ (p : Query). total z (box p) h) c.set_one_value.ensures
    ∙ sym (box_value z q h c.args.category c.args.value (omega (arith, few, wide, c.requires.category)) c.ranges.value.fits is_in))

pub returns-clause-cost : goal.returns-clause-cost
returns-clause-cost g c h counts =
    let same = ap (λ (p : Query). from_region_cost (g.V.CubeView.costs c.args.view.now) (g.V.CubeView.schema c.args.view.now) h p) c.set_one_value.ensures in
    let step = c.total_in_region.ensures.cost h counts in
    omega (arith, same, step)
