-- Texts that stand twice in a list.
use Rattle.std.specs.Prelude.{ℕ, List, [], ◌∷◌, ◌++◌, codes, map, Option, Some, None, if◌then◌else◌}
use Rattle.std.specs.Option.{option_or}
use Rattle.cube_view.specs.Limits.{has_text, column_names}
use Rattle.cube_view.specs.declared.category.Category.{Category}
use Rattle.cube_schema.specs.declared.draft.Draft.{Draft}

-- the first text of the second list that stands in the first list or earlier in the second
abbrev pub repeated_after : List (List ℕ) → List (List ℕ) → Option (List ℕ)
repeated_after earlier [] = None
repeated_after earlier (text ∷ texts) = if has_text earlier text then Some text else repeated_after (earlier ++ text ∷ []) texts

-- the first text of the list that stood earlier in it
abbrev pub repeated_in : List (List ℕ) → Option (List ℕ)
repeated_in texts = repeated_after [] texts

-- the first text that stood earlier among the values of its category, the categories in order
abbrev pub repeated_value : List Category → Option (List ℕ)
repeated_value [] = None
repeated_value (c ∷ categories) = option_or (repeated_in c.values) (repeated_value categories)

-- the names with `.out` after them: where the replies to scripts of these names go
abbrev pub outputs : List (List ℕ) → List (List ℕ)
outputs names = map (λ (name : List ℕ). name ++ codes ".out") names

-- the files of a plan: feeds, asks, finals, journal, and then the outputs of asks and finals
abbrev pub file_names : Draft → List (List ℕ)
file_names draft = draft.feeds ++ (draft.asks ++ (draft.finals ++ (draft.journal ∷ (outputs draft.asks ++ outputs draft.finals))))

-- the first text that stood earlier among the columns, the values of a category, or the files
unfoldable pub first_repeated : Draft → Option (List ℕ)
first_repeated draft = option_or (repeated_in (column_names draft.categories draft.weight)) (option_or (repeated_value draft.categories) (repeated_in (file_names draft)))
