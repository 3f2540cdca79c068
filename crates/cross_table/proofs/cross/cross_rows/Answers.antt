use Rattle.std.proofs.Common.{◌≡◌, ℕ, ◌∙◌, ap, arith}
use Rattle.std.specs.List.{flat_map}
use Rattle.cross_table.proofs.RowCosts.{number_of_values, rows_more, paid_more, paid_in_all, paid_to_value, texts_counted, values_under}
use Rattle.cross_table.specs.Costs.{within_cost}
use Rattle.query_syntax.specs.CrossTables.{rows_within, cross_rows}
use Rattle.query_walk.proofs.QueryBoxes.{region_deep, region_within}
use Rattle.cross_table.proofs.cross.cross_rows.Goals as goal

pub region_cursor-region-requires-clause-deep : goal.region_cursor-region-requires-clause-deep
region_cursor-region-requires-clause-deep g c κs within = region_deep (g.V.CubeView.schema c.args.view.now) c.args.query.now c.requires.has_box

pub region_cursor-region-requires-clause-within : goal.region_cursor-region-requires-clause-within
region_cursor-region-requires-clause-within g c κs within = region_within (g.V.CubeView.schema c.args.view.now) c.args.query.now c.requires.has_box

pub overflow_cast-one : goal.overflow_cast-one
overflow_cast-one g c = omega (arith, c.value_texts-value-end.ensures.few, c.loop-value-test.true)

pub push_rows_within-requires-clause-walk : goal.push_rows_within-requires-clause-walk
push_rows_within-requires-clause-walk g c κs within = record {
  has_box = c.requires.has_box;
  place = c.region_cursor-region.ensures.place;
  found = c.region_cursor-region.ensures.found;
  none = c.region_cursor-region.ensures.none;
}

pub push_rows_within-requires-clause-first : goal.push_rows_within-requires-clause-first
push_rows_within-requires-clause-first g c κs within =
    let z = g.V.CubeView.schema c.args.view.now in
    let count = texts_counted c.schema-2.result.now z c.args.first c.value_texts-value-end.result.now c.schema-2.ensures c.value_texts-value-end.ensures.texts in
    (c.requires.first, omega (arith, count, c.loop-value-test.true))

pub loop-value-preserved : goal.loop-value-preserved
loop-value-preserved g c =
    let z = g.V.CubeView.schema c.args.view.now in
    let costs = g.V.CubeView.costs c.args.view.now in
    let q = c.args.query.now in
    record {
      rows = λ h counts. rows_more (rows_within z q h c.args.first c.args.second) c.loop-value.value c.loop-value.rows c.push_rows_within.new.rows (c.loop-value.invariant.rows h counts) (c.in_ok-push_rows_within.ensures.rows h counts);
      cost = λ h counts. paid_more (within_cost costs z h q c.args.first c.args.second) c.loop-value.value c.region_cursor-region.new.steps c.loop-value.steps _ (c.loop-value.invariant.cost h counts) (c.push_rows_within.ensures.cost h counts);
    }

pub returns : goal.returns
unfolding cross_rows
returns g c =
    let z = g.V.CubeView.schema c.args.view.now in
    let costs = g.V.CubeView.costs c.args.view.now in
    let q = c.args.query.now in
    let count = texts_counted c.schema-2.result.now z c.args.first c.value_texts-value-end.result.now c.schema-2.ensures c.value_texts-value-end.ensures.texts in
    let all : c.loop-value.value ≡ number_of_values z c.args.first = omega (arith, count, c.loop-value-test.false, c.loop-value.auto.value-end) in
    record {
      rows = λ h counts. c.loop-value.invariant.rows h counts ∙ ap (λ (n : ℕ). flat_map (rows_within z q h c.args.first c.args.second) (values_under n)) all;
      cost = λ h counts.
          let space = c.region_cursor-region.ensures.cost h counts in
          let paid = paid_in_all (within_cost costs z h q c.args.first c.args.second) c.loop-value.value (number_of_values z c.args.first) c.region_cursor-region.new.steps c.loop-value.steps (omega (arith, all)) (c.loop-value.invariant.cost h counts) in
          omega (arith, space, paid);
    }

pub returns-in_err-push_rows_within-clause-cost : goal.returns-in_err-push_rows_within-clause-cost
returns-in_err-push_rows_within-clause-cost g c h counts =
    let z = g.V.CubeView.schema c.args.view.now in
    let costs = g.V.CubeView.costs c.args.view.now in
    let q = c.args.query.now in
    let space = c.region_cursor-region.ensures.cost h counts in
    let cost = within_cost costs z h q c.args.first c.args.second in
    let paid = paid_to_value c.schema-2.result.now z c.args.first c.value_texts-value-end.result.now cost c.loop-value.value c.region_cursor-region.new.steps c.loop-value.steps _ c.schema-2.ensures c.value_texts-value-end.ensures.texts (omega (arith, c.loop-value-test.true)) (c.loop-value.invariant.cost h counts) (c.push_rows_within.ensures.cost h counts) in
    omega (arith, space, paid)
