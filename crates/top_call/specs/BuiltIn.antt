-- The plan that is built in: depth 3, the category `kind` with `a` and `b`, time from 0 in bins of 10, batch 1.
use Rattle.std.specs.Prelude.{[], ◌∷◌, None, codes, refl}
use Rattle.cube_view.specs.declared.category.Category.{Category}
use Rattle.cube_view.specs.declared.schema.Schema.{Schema}

abbrev pub kind : Category
kind = record { name = codes "kind"; values = codes "a" ∷ codes "b" ∷ [] }

abbrev pub built_in : Schema
built_in = record { depth = 3; categories = kind ∷ []; start = 0; width = 10; batch = 1; weight = None; limits = refl }
