use Rattle.std.proofs.Common.{◌≡◌, ◌∙◌, sym, ap}
use Rattle.cube_view.specs.declared.category.Category.{Category}
use Rattle.query_syntax.specs.Items.{values_at}
use Rattle.query_syntax.proofs.SchemaLimits.{values_at-get, few_values}
use Rattle.cross_table.proofs.cross.value_texts.Goals as goal

pub returns-clause-texts : goal.returns-clause-texts
returns-clause-texts c =
    c.as_slice.ensures ∙ ap (λ (x : Category). x.values) c.get.ensures ∙ sym (values_at-get c.args.schema.now.categories c.args.category c.get.result.now c.requires)

pub returns-clause-few : goal.returns-clause-few
returns-clause-few c =
    let schema = c.args.schema.now in
    let e : c.as_slice.result.now ≡ values_at schema.categories c.args.category = c.as_slice.ensures ∙ ap (λ (x : Category). x.values) c.get.ensures ∙ sym (values_at-get schema.categories c.args.category c.get.result.now c.requires) in
    rw e (few_values schema c.args.category c.requires)
