-- How a valid query is printed: its words, with one space between two.
use Rattle.std.specs.Prelude.{ℕ, zero, suc, Bool, ◌||◌, ◌==◌, if◌then◌else◌, List, [], ◌∷◌, ◌++◌, codes}
use Rattle.std.specs.Fmt.{decimal}
use Rattle.std.specs.List.{list_any, flat_map, join_with_byte}
use Rattle.cube_view.specs.declared.category.Category.{Category}
use Rattle.cube_view.specs.declared.schema.Schema.{Schema}
use Rattle.cube_view.specs.declared.address.Tile.{Tile}
use Rattle.query_syntax.specs.Items.{in_quotes}
use Rattle.query_syntax.specs.Queries.{is_all_bins}
use Rattle.query_syntax.specs.Words.{space, bar, slash}
use Rattle.query_syntax.specs.declared.query.Choice.{Choice}
use Rattle.query_syntax.specs.declared.query.Choice.TheVariants.{All, Only}
use Rattle.query_syntax.specs.declared.query.Query.{Query}
use Rattle.query_syntax.specs.declared.query.Span.{Span}
use Rattle.query_syntax.specs.declared.query.Verb.{Verb}
use Rattle.query_syntax.specs.declared.query.Verb.TheVariants.{Count, Hist, Map, Series, Window, Cross, Best, Stat, Told, Quit}

-- the name of the category of that number
abbrev pub name_at : List Category → ℕ → List ℕ
name_at [] k = []
name_at (c ∷ categories) zero = c.name
name_at (c ∷ categories) (suc k) = name_at categories k

-- the first word
abbrev pub verb_name : Verb → List ℕ
verb_name Count = codes "count"
verb_name (Hist k) = codes "hist"
verb_name (Map down) = codes "map"
verb_name (Series from wide rows) = codes "series"
verb_name (Window rect) = codes "window"
verb_name (Cross k l) = codes "cross"
verb_name (Best down rows) = codes "best"
verb_name Stat = codes "stat"
verb_name Told = codes "told"
verb_name Quit = codes "quit"

-- the further words of the verb
abbrev pub verb_texts : List Category → Verb → List (List ℕ)
verb_texts categories Count = []
verb_texts categories (Hist k) = name_at categories k ∷ []
verb_texts categories (Map down) = decimal down ∷ []
verb_texts categories (Series from wide rows) = decimal from ∷ decimal wide ∷ decimal rows ∷ []
verb_texts categories (Window rect) = decimal rect.x0 ∷ decimal rect.y0 ∷ decimal rect.x1 ∷ decimal rect.y1 ∷ []
verb_texts categories (Cross k l) = name_at categories k ∷ name_at categories l ∷ []
verb_texts categories (Best down rows) = decimal down ∷ decimal rows ∷ []
verb_texts categories Stat = []
verb_texts categories Told = []
verb_texts categories Quit = []

-- level, column and row
abbrev pub tile_text : Tile → List ℕ
tile_text t = decimal t.z ++ (slash ∷ (decimal t.x ++ (slash ∷ decimal t.y)))

-- the region, where it isn't all of space
abbrev pub region_texts : Tile → List (List ℕ)
region_texts t = if t.z == 0 then [] else codes "in" ∷ tile_text t ∷ []

-- a space or a bar, which stand in a value in quotes alone
abbrev pub needs_quotes : ℕ → Bool
needs_quotes b = (b == space) || (b == bar)

-- a value, in quotes exactly where it has a space or a bar
abbrev pub value_text : List ℕ → List ℕ
value_text value = if list_any needs_quotes value then in_quotes value else value

-- a value where it is listed: after a bar, unless it is the first
abbrev pub value_listed : Bool → List ℕ → List ℕ
value_listed is_first value = if is_first then value_text value else bar ∷ value_text value

-- the values of the set, in the category's order
abbrev pub value_texts : List Bool → List (List ℕ) → List (List ℕ)
value_texts [] values = []
value_texts (b ∷ set) [] = []
value_texts (b ∷ set) (value ∷ values) = if b then value_text value ∷ value_texts set values else value_texts set values

-- a category and the values that count, with bars between them
abbrev pub item_text : Category → List Bool → List ℕ
item_text c set = c.name ++ (61 ∷ join_with_byte bar (value_texts set c.values))

-- the item of a category of which not all values count
abbrev pub choice_texts : Category → Choice → List (List ℕ)
choice_texts c All = []
choice_texts c (Only set) = codes "with" ∷ item_text c set ∷ []

-- the items, in the categories' order
abbrev pub choices_texts : List Category → List Choice → List (List ℕ)
choices_texts [] choices = []
choices_texts (c ∷ categories) [] = []
choices_texts (c ∷ categories) (choice ∷ choices) = choice_texts c choice ++ choices_texts categories choices

-- the span, where it isn't all bins
abbrev pub span_texts : Span → List (List ℕ)
span_texts span = if is_all_bins span then [] else codes "time" ∷ decimal span.from ∷ decimal span.to ∷ []

-- the words after the first
abbrev pub further_texts : Schema → Query → List (List ℕ)
further_texts schema q = verb_texts schema.categories q.verb ++ region_texts q.region ++ choices_texts schema.categories q.sets ++ span_texts q.time

abbrev pub after_space : List ℕ → List ℕ
after_space word = space ∷ word

-- the words after the first, each with a space before it
abbrev pub spaced : List (List ℕ) → List ℕ
spaced words = flat_map after_space words

-- the printed query
unfoldable pub query_text : Schema → Query → List ℕ
query_text schema q = verb_name q.verb ++ spaced (further_texts schema q)
