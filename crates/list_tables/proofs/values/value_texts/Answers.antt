use Rattle.std.proofs.Common.{◌≡◌, ◌∙◌, sym, ap, arith}
use Rattle.cube_view.specs.declared.category.Category.{Category}
use Rattle.query_syntax.specs.Items.{values_at}
use Rattle.query_syntax.proofs.SchemaLimits.{values_at-get, few_values}
use Rattle.list_tables.proofs.ValueCounts.{some_values}
use Rattle.list_tables.proofs.values.value_texts.Goals as goal

pub returns-clause-texts : goal.returns-clause-texts
returns-clause-texts c =
    let categories = c.args.schema.now.categories in
    c.as_slice.ensures ∙ ap (λ (x : Category). x.values) c.get.ensures ∙ sym (values_at-get categories c.from.result c.get.result.now (omega (arith, c.requires, c.from.ensures))) ∙ ap (values_at categories) c.from.ensures

pub returns-clause-few : goal.returns-clause-few
returns-clause-few c =
    let schema = c.args.schema.now in
    let e : c.as_slice.result.now ≡ values_at schema.categories c.args.k =
    c.as_slice.ensures ∙ ap (λ (x : Category). x.values) c.get.ensures ∙ sym (values_at-get schema.categories c.from.result c.get.result.now (omega (arith, c.requires, c.from.ensures))) ∙ ap (values_at schema.categories) c.from.ensures in
    rw e (some_values schema c.args.k c.requires, few_values schema c.args.k c.requires)
