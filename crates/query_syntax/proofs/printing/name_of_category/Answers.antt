use Rattle.std.proofs.Common.{◌∙◌, sym, ap}
use Rattle.cube_view.specs.declared.category.Category.{Category}
use Rattle.query_syntax.proofs.SchemaLimits.{name_at-get}
use Rattle.query_syntax.proofs.printing.name_of_category.Goals as goal

pub returns : goal.returns
returns c =
    c.as_str.ensures ∙ ap (λ (x : Category). x.name) c.get.ensures ∙ sym (name_at-get c.args.schema.now.categories c.args.k c.get.result.now c.requires)
