-- Items: a category and the values of it that count, as `name=value|value`.
--
-- A value may stand in quotes. It has to where it has a space or a bar.
use Rattle.std.specs.Prelude.{◌≡◌, ℕ, zero, suc, ◌+◌, ◌%◌, ◌≤◌, Bool, true, false, not, ◌||◌, ◌==◌, if◌then◌else◌, List, [], ◌∷◌, ◌++◌, length, filter, take, drop, count_by, position, slice_index_or, slice_set, replicate, is_some, Option, Some, option_map, option_and_then, Result, Ok}
use Rattle.std.specs.List.{list_all, list_any}
use Rattle.std.specs.Str.{bytes_eq}
use Rattle.cube_view.specs.declared.category.Category.{Category}
use Rattle.cube_view.specs.Results.{◌>>=◌}
use Rattle.query_syntax.specs.Words.{quote, bar, cut_pieces}
use Rattle.query_syntax.specs.Reading.{fault_at, or_fault}
use Rattle.query_syntax.specs.declared.fault.QueryFault.TheVariants.{BadQuote, UnknownCategory, UnknownValue, RepeatedFilter}
use Rattle.query_syntax.specs.declared.fault.WordFault.{WordFault}
use Rattle.query_syntax.specs.declared.query.Choice.{Choice}
use Rattle.query_syntax.specs.declared.query.Choice.TheVariants.{All, Only}

abbrev pub is_quote : ℕ → Bool
is_quote b = b == quote

abbrev pub is_equals_sign : ℕ → Bool
is_equals_sign b = b == 61

-- a piece without its quotes
abbrev pub bare : List ℕ → List ℕ
bare piece = filter (λ b. not (is_quote b)) piece

-- the text between two quotes
abbrev pub in_quotes : List ℕ → List ℕ
in_quotes text = quote ∷ text ++ quote ∷ []

-- a piece that has no quote, or is a text without quotes between two
unfoldable pub is_well_quoted : List ℕ → Bool
is_well_quoted piece = bytes_eq piece (bare piece) || bytes_eq piece (in_quotes (bare piece))

-- what stands before the first equals sign and what stands after it, if there is one
unfoldable pub item_parts : List ℕ → Option (List ℕ × List ℕ)
item_parts item = option_map (λ i. (take i item, drop (i + 1) item)) (position is_equals_sign item)

-- the number of quotes is even
unfoldable pub has_even_quotes : List ℕ → Bool
has_even_quotes item = count_by is_quote item % 2 == 0

-- each piece between bars is well quoted
unfoldable pub are_well_quoted : List ℕ → Bool
are_well_quoted text = list_all is_well_quoted (cut_pieces bar text)

-- the number of the category of that name
unfoldable pub category_number : List Category → List ℕ → Option ℕ
category_number categories name = position (λ (c : Category). bytes_eq c.name name) categories

-- the number of the value that a piece writes
unfoldable pub value_number : List (List ℕ) → List ℕ → Option ℕ
value_number values piece = position (λ value. bytes_eq value (bare piece)) values

abbrev pub no_values : List Bool
no_values = replicate 256 false

-- the set with the values of the pieces added, if each piece writes one
abbrev pub with_values : List (List ℕ) → List Bool → List (List ℕ) → Option (List Bool)
with_values values set [] = Some set
with_values values set (piece ∷ rest) = option_and_then (λ v. with_values values (slice_set set v true) rest) (value_number values piece)

-- the set of the values that the pieces between bars write, if each writes one
unfoldable pub set_of : List (List ℕ) → List ℕ → Option (List Bool)
set_of values text = with_values values no_values (cut_pieces bar text)

-- no number from one on is in the set
abbrev pub HasNoneFrom : List Bool → ℕ → Type 0
HasNoneFrom set from = (v : ℕ) → from ≤ v → slice_index_or set v false ≡ false

-- a category of so many values has all of them in the set
abbrev pub is_full : ℕ → List Bool → Bool
is_full count set = list_all (λ b. b) (take count set)

-- the set as a choice among so many values
abbrev pub choice_of : ℕ → List Bool → Choice
choice_of count set = if is_full count set then All else Only set

-- the texts of the values of the category of that number
abbrev pub values_at : List Category → ℕ → List (List ℕ)
values_at [] k = []
values_at (c ∷ categories) zero = c.values
values_at (c ∷ categories) (suc k) = values_at categories k

-- the category has had an item
abbrev pub has_item : List (Option Choice) → ℕ → Bool
has_item [] k = false
has_item (set ∷ sets) zero = is_some set
has_item (set ∷ sets) (suc k) = has_item sets k

-- The category of an item, which is word n, and its values that count. The tests in order
unfoldable pub item_at : List Category → List (Option Choice) → ℕ → List ℕ → Result (ℕ × Choice) WordFault
item_at categories sets n item =
    if not (has_even_quotes item) then fault_at BadQuote n else (or_fault (item_parts item) UnknownCategory n >>= λ parts.
    if not (are_well_quoted parts.1) then fault_at BadQuote n else (or_fault (category_number categories parts.0) UnknownCategory n >>= λ k.
    if has_item sets k then fault_at RepeatedFilter n else (or_fault (set_of (values_at categories k) parts.1) UnknownValue n >>= λ set.
    Ok (k, choice_of (length (values_at categories k)) set))))

-- a set of some of so many values
pub record IsSetOf (count : ℕ) (set : List Bool) : Type 0 where
  pub size : length set ≡ 256
  pub some : list_any (λ b. b) set ≡ true
  pub none_past : list_any (λ b. b) (drop count set) ≡ false
