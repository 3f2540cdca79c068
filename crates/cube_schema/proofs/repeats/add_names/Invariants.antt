use Rattle.std.proofs.Common.{◌≡◌, ◌++◌, map, take}
use Rattle.cube_view.specs.declared.category.Category.{Category}
use Rattle.cube_schema.proofs.repeats.add_names.Given as goal

abbrev pub invariant-loop-category : goal.invariant-loop-category
invariant-loop-category l = l.texts ≡ l.fn.texts ++ map (λ (c : Category). c.name) (take l.category-index l.categories)
