-- Verbs: what the first words of a query say.
use Rattle.std.specs.Prelude.{ℕ, ◌-◌, ◌^◌, ◌==◌, Bool, true, false, if◌then◌else◌, List, Result, Ok, codes}
use Rattle.std.specs.Str.{bytes_eq}
use Rattle.cube_view.specs.declared.category.Category.{Category}
use Rattle.cube_view.specs.Results.{◌>>=◌}
use Rattle.query_syntax.specs.Items.{category_number}
use Rattle.query_syntax.specs.Reading.{fault_at, or_fault, word_at, number_at}
use Rattle.query_syntax.specs.declared.fault.QueryFault.TheVariants.{UnknownVerb, UnknownCategory, SameCategory}
use Rattle.query_syntax.specs.declared.fault.WordFault.{WordFault}
use Rattle.query_syntax.specs.declared.query.Verb.{Verb}
use Rattle.query_syntax.specs.declared.query.Verb.TheVariants.{Count, Hist, Map, Series, Window, Cross, Best, Stat, Told, Quit}

-- the most levels that a map goes below its region
abbrev pub deepest_map : ℕ
deepest_map = 10

-- how many bins there are
abbrev pub bins : ℕ
bins = 2 ^ 32

-- the most rows of a series
abbrev pub most_rows : ℕ
most_rows = 10000

-- the most rows of best tiles
abbrev pub most_best_rows : ℕ
most_best_rows = 1000

-- what a reader of a verb gives: the verb, and the words after it
abbrev pub VerbRead : Type 0
VerbRead = Result (Verb × List (List ℕ)) WordFault

-- the number of the category that the first of the words names, which is number n, and the words after it
unfoldable pub category_at : List Category → ℕ → List (List ℕ) → Result (ℕ × List (List ℕ)) WordFault
category_at categories n words = do
  name ← word_at n words
  k ← or_fault (category_number categories name.0) UnknownCategory n
  Ok (k, name.1)

-- `hist` and a category
unfoldable pub hist_at : List Category → List (List ℕ) → VerbRead
hist_at categories words = do
  k ← category_at categories 2 words
  Ok (Hist k.0, k.1)

-- `map` and how many levels down
unfoldable pub map_at : List (List ℕ) → VerbRead
map_at words = do
  down ← number_at 0 deepest_map 2 words
  Ok (Map down.0, down.1)

-- `series`, its start, the width of a row, and the number of rows
unfoldable pub series_at : List (List ℕ) → VerbRead
series_at words = do
  from ← number_at 0 (bins - 1) 2 words
  wide ← number_at 1 bins 3 from.1
  rows ← number_at 1 most_rows 4 wide.1
  Ok (Series from.0 wide.0 rows.0, rows.1)

-- `window` and its columns and rows, the ends not before the starts, where there are so many levels
unfoldable pub window_at : ℕ → List (List ℕ) → VerbRead
window_at depth words = do
  x0 ← number_at 0 (2 ^ depth) 2 words
  y0 ← number_at 0 (2 ^ depth) 3 x0.1
  x1 ← number_at x0.0 (2 ^ depth) 4 y0.1
  y1 ← number_at y0.0 (2 ^ depth) 5 x1.1
  Ok (Window (record { x0 = x0.0; y0 = y0.0; x1 = x1.0; y1 = y1.0 }), y1.1)

-- `cross` and two categories
unfoldable pub cross_at : List Category → List (List ℕ) → VerbRead
cross_at categories words = do
  k ← category_at categories 2 words
  l ← category_at categories 3 k.1
  if k.0 == l.0 then fault_at SameCategory 3 else Ok (Cross k.0 l.0, l.1)

-- `best`, how many levels down, and how many rows
unfoldable pub best_at : List (List ℕ) → VerbRead
best_at words = do
  down ← number_at 0 deepest_map 2 words
  rows ← number_at 1 most_best_rows 3 down.1
  Ok (Best down.0 rows.0, rows.1)

-- the verb of a line, and the words after its own, where there are so many levels and these categories
unfoldable pub verb_at : ℕ → List Category → List (List ℕ) → VerbRead
verb_at depth categories words = word_at 1 words >>= λ verb.
    if bytes_eq verb.0 (codes "count") then Ok (Count, verb.1) else (
    if bytes_eq verb.0 (codes "hist") then hist_at categories verb.1 else (
    if bytes_eq verb.0 (codes "map") then map_at verb.1 else (
    if bytes_eq verb.0 (codes "series") then series_at verb.1 else (
    if bytes_eq verb.0 (codes "window") then window_at depth verb.1 else (
    if bytes_eq verb.0 (codes "cross") then cross_at categories verb.1 else (
    if bytes_eq verb.0 (codes "best") then best_at verb.1 else (
    if bytes_eq verb.0 (codes "stat") then Ok (Stat, verb.1) else (
    if bytes_eq verb.0 (codes "told") then Ok (Told, verb.1) else (
    if bytes_eq verb.0 (codes "quit") then Ok (Quit, verb.1) else fault_at UnknownVerb 1)))))))))

-- how many words the verb has
abbrev pub verb_words : Verb → ℕ
verb_words Count = 1
verb_words (Hist k) = 2
verb_words (Map down) = 2
verb_words (Series from wide rows) = 4
verb_words (Window rect) = 5
verb_words (Cross k l) = 3
verb_words (Best down rows) = 3
verb_words Stat = 1
verb_words Told = 1
verb_words Quit = 1

-- the verb counts points, so that filters may follow
abbrev pub takes_filters : Verb → Bool
takes_filters Stat = false
takes_filters Told = false
takes_filters Quit = false
takes_filters other = true

-- the verb has its bins by itself
abbrev pub is_series : Verb → Bool
is_series (Series from wide rows) = true
is_series other = false

-- the verb has its finest tiles by itself
abbrev pub is_window : Verb → Bool
is_window (Window rect) = true
is_window other = false
