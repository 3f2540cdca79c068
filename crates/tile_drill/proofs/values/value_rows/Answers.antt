use Rattle.std.proofs.Common.{◌+◌, ◌≡◌, ℕ, length, map, ◌∙◌, ap, arith}
use Rattle.std.specs.List.{range_with_len}
use Rattle.query_syntax.specs.Items.{values_at}
use Rattle.query_syntax.proofs.SchemaLimits.{few_values}
use Rattle.query_syntax.specs.Tables.{value_row}
use Rattle.query_walk.proofs.QueryBoxes.{region_deep, region_within}
use Rattle.tile_drill.proofs.RowCosts.{value_paid, values_paid}
use Rattle.tile_drill.proofs.RowSteps.{one_row_more, category_values, value_row_is, value_text_is}
use Rattle.tile_drill.proofs.values.value_rows.Goals as goal

pub region_cursor-region-requires-clause-deep : goal.region_cursor-region-requires-clause-deep
region_cursor-region-requires-clause-deep g c κs within = region_deep (g.V.CubeView.schema c.args.view.now) c.args.query.now c.requires.has_box

pub region_cursor-region-requires-clause-within : goal.region_cursor-region-requires-clause-within
region_cursor-region-requires-clause-within g c κs within = region_within (g.V.CubeView.schema c.args.view.now) c.args.query.now c.requires.has_box

pub value_total-total-requires-clause-walk : goal.value_total-total-requires-clause-walk
value_total-total-requires-clause-walk g c κs within = record {
  has_box = c.requires.has_box;
  place = c.region_cursor-region.ensures.place;
  found = c.region_cursor-region.ensures.found;
  none = c.region_cursor-region.ensures.none;
}

pub overflow_cast-value : goal.overflow_cast-value
overflow_cast-value g c =
    let z = g.V.CubeView.schema c.args.view.now in
    let values = category_values c.schema.result.now z c.args.category c.from-place.result c.get.result.now c.get.ensures c.schema.ensures c.from-place.ensures c.requires.category in
    let few = few_values z c.args.category c.requires.category in
    let count = ap length values in
    omega (arith, count, few, c.len-value-end.ensures, c.loop-value-test.true)

pub loop-value-preserved : goal.loop-value-preserved
loop-value-preserved g c =
    let z = g.V.CubeView.schema c.args.view.now in
    let values = category_values c.schema.result.now z c.args.category c.from-place.result c.get.result.now c.get.ensures c.schema.ensures c.from-place.ensures c.requires.category in
    let text = value_text_is c.get.result.now.values (values_at z.categories c.args.category) c.loop-value.value c.get-in-loop-value.result.now c.in_ok-text.text values (omega (arith, c.len-value-end.ensures, c.loop-value-test.true)) c.get-in-loop-value.ensures c.in_ok-text.ensures in
    record {
      rows = λ h counts. one_row_more (value_row z c.args.query.now h c.args.category) c.loop-value.value c.loop-value.rows c.add.new.self _ c.in_ok-add.ensures.added (c.loop-value.invariant.rows h counts)
          (value_row_is z c.args.query.now h c.args.category c.loop-value.value c.from-place.result c.value_total-total.result c.in_ok-text.text c.from-place.ensures text (c.value_total-total.ensures.total h counts));
      cost = λ h counts. value_paid (g.V.CubeView.costs c.args.view.now) z h c.args.query.now c.args.category c.from-place.result c.loop-value.value _ _ _ c.from-place.ensures (c.loop-value.invariant.cost h counts) (c.value_total-total.ensures.cost h counts);
    }

pub returns : goal.returns
returns g c =
    let z = g.V.CubeView.schema c.args.view.now in
    let values = category_values c.schema.result.now z c.args.category c.from-place.result c.get.result.now c.get.ensures c.schema.ensures c.from-place.ensures c.requires.category in
    let count = ap length values in
    let all : c.loop-value.value ≡ length (values_at z.categories c.args.category) = omega (arith, count, c.len-value-end.ensures, c.loop-value-test.false) in
    record { rows = λ h counts. c.loop-value.invariant.rows h counts ∙ ap (λ (n : ℕ). map (value_row z c.args.query.now h c.args.category) (range_with_len 0 n)) all; cost = λ h counts. values_paid (g.V.CubeView.costs c.args.view.now) z h c.args.query.now c.args.category c.get.result.now.values c.loop-value.value _ _ _ values (omega (arith, c.len-value-end.ensures, c.loop-value.auto.value-end)) (c.region_cursor-region.ensures.cost h counts) (c.loop-value.invariant.cost h counts) }

pub returns-in_err-text-clause-cost : goal.returns-in_err-text-clause-cost
returns-in_err-text-clause-cost g c h counts =
    let z = g.V.CubeView.schema c.args.view.now in
    let values = category_values c.schema.result.now z c.args.category c.from-place.result c.get.result.now c.get.ensures c.schema.ensures c.from-place.ensures c.requires.category in
    values_paid (g.V.CubeView.costs c.args.view.now) z h c.args.query.now c.args.category c.get.result.now.values c.loop-value.value _ _ _ values (omega (arith, c.len-value-end.ensures, c.loop-value.auto.value-end)) (c.region_cursor-region.ensures.cost h counts) (c.loop-value.invariant.cost h counts)

pub returns-in_err-add-clause-cost : goal.returns-in_err-add-clause-cost
returns-in_err-add-clause-cost g c h counts =
    let z = g.V.CubeView.schema c.args.view.now in
    let costs = g.V.CubeView.costs c.args.view.now in
    let values = category_values c.schema.result.now z c.args.category c.from-place.result c.get.result.now c.get.ensures c.schema.ensures c.from-place.ensures c.requires.category in
    let paid = value_paid costs z h c.args.query.now c.args.category c.from-place.result c.loop-value.value _ _ _ c.from-place.ensures (c.loop-value.invariant.cost h counts) (c.value_total-total.ensures.cost h counts) in
    values_paid costs z h c.args.query.now c.args.category c.get.result.now.values (c.loop-value.value + 1) _ _ _ values (omega (arith, c.len-value-end.ensures, c.loop-value-test.true)) (c.region_cursor-region.ensures.cost h counts) paid
