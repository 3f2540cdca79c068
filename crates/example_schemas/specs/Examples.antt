-- The schemas of the examples.
use Rattle.std.specs.Prelude.{ℕ, List, [], ◌∷◌, None, codes, refl}
use Rattle.cube_view.specs.declared.category.Category.{Category}
use Rattle.cube_view.specs.declared.schema.Schema.{Schema}

-- a category of two values
abbrev pub named_category : List ℕ → List ℕ → List ℕ → Category
named_category name first second = record { name = name; values = first ∷ second ∷ [] }

-- depth 3, the category `kind` of a and b, and bins of 10 from 0 on
abbrev pub kinds : Schema
kinds = record { depth = 3; categories = named_category (codes "kind") (codes "a") (codes "b") ∷ []; start = 0; width = 10; batch = 1; weight = None; limits = refl }

-- depth 1, the categories `k` of a and b and `m` of c and d, and bins of 1 from 0 on
abbrev pub two_categories : Schema
two_categories = record { depth = 1; categories = named_category (codes "k") (codes "a") (codes "b") ∷ named_category (codes "m") (codes "c") (codes "d") ∷ []; start = 0; width = 1; batch = 1; weight = None; limits = refl }
