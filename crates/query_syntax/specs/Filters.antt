-- Filters: which points count. They stand in any order after the verb's words.
use Rattle.std.specs.Prelude.{◌≡◌, ℕ, ◌+◌, Bool, true, false, count_by, length, not, nat_lt, if◌then◌else◌, List, [], ◌∷◌, slice_set, replicate, is_some, Option, Some, None, Result, Ok, Err, codes}
use Rattle.std.specs.Str.{bytes_eq}
use Rattle.cube_view.specs.declared.address.Tile.{Tile}
use Rattle.cube_view.specs.declared.schema.Schema.{Schema}
use Rattle.cube_view.specs.Results.{◌>>=◌}
use Rattle.query_syntax.specs.Items.{item_at}
use Rattle.query_syntax.specs.Reading.{fault_at, or_fault, number_of}
use Rattle.query_syntax.specs.Tiles.{tile_value}
use Rattle.query_syntax.specs.Verbs.{bins, takes_filters, is_series, is_window}
use Rattle.query_syntax.specs.Words.{words}
use Rattle.query_syntax.specs.declared.fault.QueryFault.TheVariants.{MissingWord, OutOfRange, BadTile, RepeatedFilter, UnknownFilter, TimeInSeries, InWithWindow}
use Rattle.query_syntax.specs.declared.fault.WordFault.{WordFault}
use Rattle.query_syntax.specs.declared.query.Choice.{Choice}
use Rattle.query_syntax.specs.declared.query.Span.{Span}
use Rattle.query_syntax.specs.declared.query.Verb.{Verb}

-- what a word has to be: the name of a filter, or what the filter before it wants next
pub data Wanted : Type 0 where
  Name : Wanted
  Region : Wanted
  Item : Wanted
  From : Wanted
  To : ℕ → Wanted

-- what the filters of a line said so far, with None where there was none of the kind
pub record Filters : Type 0 where
  -- the tile
  pub region : Option Tile
  -- of each category the values that count
  pub sets : List (Option Choice)
  -- the interval
  pub time : Option Span

-- what is wanted next, and what the filters said so far
pub record Progress : Type 0 where
  pub wanted : Wanted
  pub filters : Filters

-- no filter yet
abbrev pub no_filters : Filters
no_filters = record { region = None; sets = replicate 4 None; time = None }

-- a filter's name, which is word n
abbrev pub name_read : Verb → Filters → ℕ → List ℕ → Result Progress WordFault
name_read verb filters n word =
    if not (takes_filters verb) then fault_at UnknownFilter n else (
    if bytes_eq word (codes "in") then (if is_window verb then fault_at InWithWindow n else (if is_some filters.region then fault_at RepeatedFilter n else Ok (record { wanted = Region; filters = filters }))) else (
    if bytes_eq word (codes "with") then Ok (record { wanted = Item; filters = filters }) else (
    if bytes_eq word (codes "time") then (if is_series verb then fault_at TimeInSeries n else (if is_some filters.time then fault_at RepeatedFilter n else Ok (record { wanted = From; filters = filters }))) else
    fault_at UnknownFilter n)))

-- word n, where that is wanted
abbrev pub word_read : Schema → Verb → Wanted → Filters → ℕ → List ℕ → Result Progress WordFault
word_read schema verb Name filters n word = name_read verb filters n word
word_read schema verb Region filters n word = or_fault (tile_value schema.depth word) BadTile n >>= λ tile. Ok (record { wanted = Name; filters = record filters { region = Some tile } })
word_read schema verb Item filters n word = item_at schema.categories filters.sets n word >>= λ item. Ok (record { wanted = Name; filters = record filters { sets = slice_set filters.sets item.0 (Some item.1) } })
word_read schema verb From filters n word = number_of 0 bins n word >>= λ from. Ok (record { wanted = To from; filters = filters })
word_read schema verb (To from) filters n word = number_of 0 bins n word >>= λ to. if nat_lt to from then fault_at OutOfRange n else Ok (record { wanted = Name; filters = record filters { time = Some (record { from = from; to = to }) } })

-- after the last word, which is the one before word n, nothing more may be wanted
abbrev pub end_read : Wanted → Filters → ℕ → Result Filters WordFault
end_read Name filters n = Ok filters
end_read Region filters n = fault_at MissingWord n
end_read Item filters n = fault_at MissingWord n
end_read From filters n = fault_at MissingWord n
end_read (To from) filters n = fault_at MissingWord n

-- what the words say, the first of which is word n, after what the filters said before
abbrev pub words_read : Schema → Verb → Wanted → Filters → ℕ → List (List ℕ) → Result Filters WordFault
words_read schema verb wanted filters n [] = end_read wanted filters n
words_read schema verb wanted filters n (word ∷ later) = word_read schema verb wanted filters n word >>= λ p. words_read schema verb p.wanted p.filters (n + 1) later

-- what all the filters of a query say, the first of whose words is word n
unfoldable pub filters_at : Schema → Verb → ℕ → List (List ℕ) → Result Filters WordFault
filters_at schema verb n line = words_read schema verb Name no_filters n line

-- what a line says to a verb, the first of whose words is word n, where that is wanted
abbrev pub line_read : Wanted → Schema → Filters → ℕ → List ℕ → Verb → Result Filters WordFault
line_read wanted schema filters n line verb = words_read schema verb wanted filters n (words line)

-- what a line says to a verb where a filter's name is wanted
abbrev pub names_read : Schema → Filters → ℕ → List ℕ → Verb → Result Filters WordFault
names_read = line_read Name

-- what a filter's name, which is word n, and the line after it say to a verb
abbrev pub filter_at : Schema → Filters → ℕ → List ℕ → List ℕ → Verb → Result Filters WordFault
filter_at schema filters n word line verb = words_read schema verb Name filters n (word ∷ words line)

-- What is read in all is a fault that was returned, or what is read after the part that was returned
abbrev pub ReadsOn : {X : Type 0} → Result Filters WordFault → Result X WordFault → (X → Result Filters WordFault) → Type 0
ReadsOn whole (Ok x) after = whole ≡ after x
ReadsOn whole (Err e) after = whole ≡ Err e

-- The same for each verb
abbrev pub AlwaysReadsOn : {X : Type 0} → (Verb → Result Filters WordFault) → Result X WordFault → (X → Verb → Result Filters WordFault) → Type 0
AlwaysReadsOn whole result after = (verb : Verb) → ReadsOn (whole verb) result (λ x. after x verb)

-- 1 where it holds
abbrev pub one_if : Bool → ℕ
one_if true = 1
one_if false = 0

-- how many filters there were
abbrev pub filters_used : Filters → ℕ
filters_used filters = one_if (is_some filters.region) + count_by is_some filters.sets + one_if (is_some filters.time)

-- one filter more, in as many places for categories
pub record AddsFilter (old new : Filters) : Type 0 where
  pub used : filters_used new ≡ filters_used old + 1
  pub places : length new.sets ≡ length old.sets
