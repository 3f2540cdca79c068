-- The plan that is built in: depth 10, the category `kind` with a, b, c and d, time from 0 in bins of 1, batch 64. And
-- its two scripts.
use Rattle.std.specs.Prelude.{ℕ, List, [], ◌∷◌, ◌++◌, None, codes, refl}
use Rattle.cube_view.specs.declared.category.Category.{Category}
use Rattle.cube_view.specs.declared.schema.Schema.{Schema}

-- the category
abbrev pub letter_kind : Category
letter_kind = record { name = codes "kind"; values = codes "a" ∷ codes "b" ∷ codes "c" ∷ codes "d" ∷ [] }

-- the schema
abbrev pub big_schema : Schema
big_schema = record { depth = 10; categories = letter_kind ∷ []; start = 0; width = 1; batch = 64; weight = None; limits = refl }

-- a line of a script
abbrev pub script_line : List ℕ → List ℕ
script_line words = words ++ 10 ∷ []

-- the script of the session beside the feeds: `count`, `told`, `count`
abbrev pub ask_script : List ℕ
ask_script = script_line (codes "count") ++ script_line (codes "told") ++ script_line (codes "count")

-- the script of the session after them: `count`, `hist kind`, `map 1`, `series 0 256 4`
abbrev pub final_script : List ℕ
final_script = script_line (codes "count") ++ script_line (codes "hist kind") ++ script_line (codes "map 1") ++ script_line (codes "series 0 256 4")
