-- The columns after time: the weight's, if there is one, and those of the categories.
use Rattle.std.proofs.Common.{◌≡◌, refl, ℕ, zero, suc, ◌-◌, ◌+◌, ◌<◌, ◌≤◌, List, [], ◌∷◌, ◌++◌, length, map, take, get_or, Option, Some, None, option_map, arith}
use Rattle.std.proofs.lemmas.List.{length-map, map_push, take_more}
use Rattle.cube_view.specs.Limits.{with_weight}
use Rattle.cube_view.specs.declared.category.Category.{Category}
use Rattle.cube_view.specs.declared.schema.Schema.{Schema}
use Rattle.feed_reader.specs.Columns.{category_items, column_at, further_column, further_names, needed_names, needed_count, weight_item}
use Rattle.feed_reader.specs.Rows.{texts_at}

-- from the fourth on, the names are those of the columns after time
pub later_name : (schema : Schema) (place : ℕ) → 3 ≤ place → get_or (needed_names schema) place [] ≡ get_or (further_names schema) (place - 3) []
later_name schema zero low = absurd (omega arith)
later_name schema (suc zero) low = absurd (omega arith)
later_name schema (suc (suc zero)) low = absurd (omega arith)
later_name schema (suc (suc (suc k))) low =
    let third : suc (suc (suc k)) - 3 ≡ k = omega arith in
    rw third refl

-- so are the columns
pub later_column : (schema : Schema) (place : ℕ) → 3 ≤ place → column_at schema place ≡ further_column schema.weight (place - 3)
later_column schema zero low = absurd (omega arith)
later_column schema (suc zero) low = absurd (omega arith)
later_column schema (suc (suc zero)) low = absurd (omega arith)
later_column schema (suc (suc (suc k))) low =
    let third : suc (suc (suc k)) - 3 ≡ k = omega arith in
    rw third refl

-- what the names so far give, and one name more
pub names_next : {A : Type 0} (f : List ℕ → A) (schema : Schema) (place : ℕ) → place < needed_count schema
    → map f (take (place + 1) (needed_names schema)) ≡ map f (take place (needed_names schema)) ++ f (get_or (needed_names schema) place []) ∷ []
names_next f schema place within =
    let names = needed_names schema in
    rw (take_more names place [] within) (map_push f (take place names) (get_or names place []))

module _ {A B : Type 0} (f : A → B) where
  -- the weight's of the values is the value of the weight's
  pub weight_item-map : (column : Option (List ℕ)) (xs : List A) → weight_item column (map f xs) ≡ option_map f (weight_item column xs)
  weight_item-map None xs = refl
  weight_item-map (Some name) [] = refl
  weight_item-map (Some name) (x ∷ xs) = refl

  pub category_items-map : (column : Option (List ℕ)) (xs : List A) → category_items column (map f xs) ≡ map f (category_items column xs)
  category_items-map None xs = refl
  category_items-map (Some name) [] = refl
  category_items-map (Some name) (x ∷ xs) = refl

-- as many items are those of the categories as there are further ones but the weight's
pub category_items-length : {A : Type 0} (column : Option (List ℕ)) (names : List (List ℕ)) (xs : List A) → length xs ≡ length (with_weight column names) → length (category_items column xs) ≡ length names
category_items-length None names xs same = same
category_items-length (Some name) names [] same = absurd (omega arith)
category_items-length (Some name) names (x ∷ xs) same = omega arith

pub places_length : (schema : Schema) (places : List ℕ) → length places + 3 ≡ needed_count schema → length (category_items schema.weight places) ≡ length schema.categories
places_length schema places same =
    let names = length-map schema.categories (λ (c : Category). c.name) in
    let items = category_items-length schema.weight (map (λ (c : Category). c.name) schema.categories) places (omega (arith, same)) in
    omega (arith, names, items)

pub texts_length : (schema : Schema) (fields : List (List ℕ)) (places : List ℕ) → length places + 3 ≡ needed_count schema → length (category_items schema.weight (texts_at fields places)) ≡ length schema.categories
texts_length schema fields places same =
    let texts = length-map places (λ (place : ℕ). get_or fields place []) in
    let names = length-map schema.categories (λ (c : Category). c.name) in
    let items = category_items-length schema.weight (map (λ (c : Category). c.name) schema.categories) (texts_at fields places) (omega (arith, same, texts)) in
    omega (arith, names, items)
