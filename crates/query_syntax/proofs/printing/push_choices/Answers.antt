use Rattle.std.proofs.Common.{◌≡◌, ◌∙◌, sym, ap, arith, string_bytes}
use Rattle.cube_view.specs.declared.category.Category.{Category}
use Rattle.cube_view.proofs.SchemaBounds.{few_categories}
use Rattle.query_syntax.specs.Items.{values_at}
use Rattle.query_syntax.proofs.ValueLists.{choices_bytes}
use Rattle.query_syntax.proofs.SchemaLimits.{few_values, values_at-get}
use Rattle.query_syntax.proofs.printing.push_choices.Goals as goal

pub push_choice-requires : goal.push_choice-requires
push_choice-requires c =
    let schema = c.args.schema.now in
    let same : values_at schema.categories c.loop-k.k ≡ c.get.result.now.values = values_at-get schema.categories c.loop-k.k c.get.result.now (omega arith) ∙ ap (λ (x : Category). x.values) (sym c.get.ensures) in
    rw same at (few_values schema c.loop-k.k (omega arith))

pub loop-k-preserved : goal.loop-k-preserved
loop-k-preserved c =
    choices_bytes (string_bytes c.args.text.now) (string_bytes c.loop-k.text) (string_bytes c.push_choice.new.text) c.args.schema.now.categories c.args.choices.now c.loop-k.k c.get.result.now c.index-choices-k.result (omega arith) (omega (arith, few_categories c.args.schema.now)) c.get.ensures c.loop-k.invariant c.in_ok-push_choice.ensures
