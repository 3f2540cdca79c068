use Rattle.std.proofs.Common.{◌≡◌, ℕ, ◌++◌, map, ◌∙◌, ap, arith}
use Rattle.cross_table.proofs.RowCosts.{number_of_values, row_more, paid_more, paid_in_all, paid_to_value, texts_counted, values_under}
use Rattle.cross_table.specs.Costs.{pair_cost}
use Rattle.query_syntax.specs.CrossTables.{pair_row}
use Rattle.cross_table.proofs.cross.push_rows_within.Goals as goal

pub overflow_cast-other : goal.overflow_cast-other
overflow_cast-other g c = omega (arith, c.value_texts-value-end.ensures.few, c.loop-value-test.true)

pub row_of_pair-requires-clause-second : goal.row_of_pair-requires-clause-second
row_of_pair-requires-clause-second g c κs within =
    let z = g.V.CubeView.schema c.args.view.now in
    let count = texts_counted c.schema.result.now z c.args.second c.value_texts-value-end.result.now c.schema.ensures c.value_texts-value-end.ensures.texts in
    (c.requires.second, omega (arith, count, c.loop-value-test.true))

pub loop-value-preserved : goal.loop-value-preserved
loop-value-preserved g c =
    let z = g.V.CubeView.schema c.args.view.now in
    record {
      rows = λ h counts. row_more (pair_row z c.args.query.now h c.args.first.category c.args.second c.args.first.value) c.loop-value.value c.args.rows.now c.loop-value.rows c.add.new.self c.in_ok-row.row (c.loop-value.invariant.rows h counts) (c.in_ok-row.ensures.row h counts) c.in_ok-add.ensures.added;
      cost = λ h counts. paid_more (pair_cost (g.V.CubeView.costs c.args.view.now) z h c.args.query.now c.args.first.category c.args.second c.args.first.value) c.loop-value.value c.args.steps.now c.loop-value.steps _ (c.loop-value.invariant.cost h counts) (c.row_of_pair.ensures.cost h counts);
    }

pub returns : goal.returns
returns g c =
    let z = g.V.CubeView.schema c.args.view.now in
    let costs = g.V.CubeView.costs c.args.view.now in
    let q = c.args.query.now in
    let count = texts_counted c.schema.result.now z c.args.second c.value_texts-value-end.result.now c.schema.ensures c.value_texts-value-end.ensures.texts in
    let all : c.loop-value.value ≡ number_of_values z c.args.second = omega (arith, count, c.loop-value-test.false, c.loop-value.auto.value-end) in
    record {
      rows = λ h counts. c.loop-value.invariant.rows h counts ∙ ap (λ (n : ℕ). c.args.rows.now ++ map (pair_row z q h c.args.first.category c.args.second c.args.first.value) (values_under n)) all;
      cost = λ h counts. paid_in_all (pair_cost costs z h q c.args.first.category c.args.second c.args.first.value) c.loop-value.value (number_of_values z c.args.second) c.args.steps.now c.loop-value.steps (omega (arith, all)) (c.loop-value.invariant.cost h counts);
    }

pub returns-in_err-row-clause-cost : goal.returns-in_err-row-clause-cost
returns-in_err-row-clause-cost g c h counts =
    let cost = pair_cost (g.V.CubeView.costs c.args.view.now) (g.V.CubeView.schema c.args.view.now) h c.args.query.now c.args.first.category c.args.second c.args.first.value in
    paid_to_value c.schema.result.now (g.V.CubeView.schema c.args.view.now) c.args.second c.value_texts-value-end.result.now cost c.loop-value.value c.args.steps.now c.loop-value.steps _ c.schema.ensures c.value_texts-value-end.ensures.texts (omega (arith, c.loop-value-test.true)) (c.loop-value.invariant.cost h counts) (c.row_of_pair.ensures.cost h counts)

pub returns-in_err-add-clause-cost : goal.returns-in_err-add-clause-cost
returns-in_err-add-clause-cost g c h counts =
    let cost = pair_cost (g.V.CubeView.costs c.args.view.now) (g.V.CubeView.schema c.args.view.now) h c.args.query.now c.args.first.category c.args.second c.args.first.value in
    paid_to_value c.schema.result.now (g.V.CubeView.schema c.args.view.now) c.args.second c.value_texts-value-end.result.now cost c.loop-value.value c.args.steps.now c.loop-value.steps _ c.schema.ensures c.value_texts-value-end.ensures.texts (omega (arith, c.loop-value-test.true)) (c.loop-value.invariant.cost h counts) (c.row_of_pair.ensures.cost h counts)
