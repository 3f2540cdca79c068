use Rattle.std.proofs.Common.{◌≡◌, map, take}
use Rattle.serde_json.specs.View.{view}
use Rattle.cube_schema.specs.Printed.{category_value}
use Rattle.cube_schema.proofs.printing.categories_value.Given as goal

abbrev pub invariant-loop-category : goal.invariant-loop-category
invariant-loop-category l = map view l.items.items ≡ map category_value (take l.category-index l.categories)
