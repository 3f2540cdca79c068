-- The levels of a schema's dimensions, and which labels they have.
use Rattle.std.specs.Prelude.{ℕ, zero, suc, Bool, true, ◌&&◌, ◌==◌, nat_lt, if◌then◌else◌, ◌-◌, List, [], ◌∷◌, length}
use Rattle.std.specs.List.{list_all}
use Rattle.cube_view.specs.Places.{deepest, time_dim}
use Rattle.cube_view.specs.Walks.{down, across, Walk, dimension}
use Rattle.cube_view.specs.declared.category.Category.{Category}
use Rattle.cube_view.specs.declared.schema.Schema.{Schema}

-- how many levels n dimensions have, from one on
abbrev pub levels_from : Schema → ℕ → ℕ → List ℕ
levels_from schema dim zero = []
levels_from schema dim (suc n) = deepest schema dim ∷ levels_from schema (suc dim) n

-- how many levels each dimension of a schema has
abbrev pub schema_levels : Schema → List ℕ
schema_levels schema = levels_from schema 1 (time_dim schema)

-- how many values the category at a place has; 0 where there is none
abbrev pub value_count : List Category → ℕ → ℕ
value_count [] k = 0
value_count (c ∷ categories) zero = length c.values
value_count (c ∷ categories) (suc k) = value_count categories k

-- the labels of a dimension are those below this: the four quadrants of space, and the values of a category
abbrev pub label_end : Schema → ℕ → ℕ
label_end schema dim = if dim == 1 then 4 else value_count schema.categories (dim - 2)

-- the label is one of the dimension's
abbrev pub label_fits : Schema → ℕ → ℕ → Bool
label_fits schema dim l = nat_lt l (label_end schema dim)

-- each label of an address is one of its dimension's
abbrev pub labels_fit : Schema → Walk → Bool
labels_fit schema [] = true
labels_fit schema (down l ∷ a) = label_fits schema (dimension a) l && labels_fit schema a
labels_fit schema (across ∷ a) = labels_fit schema a

-- each label of paths is one of its dimension's, the first path being that of a dimension
abbrev pub paths_fit : Schema → ℕ → List (List ℕ) → Bool
paths_fit schema dim [] = true
paths_fit schema dim (path ∷ paths) = list_all (label_fits schema dim) path && paths_fit schema (suc dim) paths
