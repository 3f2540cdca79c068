-- The meaning of a line: nothing, a query, or the first fault from the left and the number of its word.
use Rattle.std.specs.Prelude.{◌≡◌, ℕ, length, None, ◌+◌, Bool, true, false, not, ◌==◌, if◌then◌else◌, List, [], ◌∷◌, map, unwrap_or, Result, Ok, Err}
use Rattle.std.specs.Str.{is_utf8}
use Rattle.cube_view.specs.declared.schema.Schema.{Schema}
use Rattle.cube_view.specs.Results.{◌>>=◌}
use Rattle.query_syntax.specs.Filters.{Filters, filters_at, no_filters}
use Rattle.query_syntax.specs.Queries.{whole_space, all_bins, is_too_deep, are_choices, is_span, is_valid_query}
use Rattle.query_syntax.specs.Reading.{fault_at}
use Rattle.query_syntax.specs.Tiles.{is_tile}
use Rattle.query_syntax.specs.Verbs.{verb_at, verb_words, takes_filters, is_series, is_window}
use Rattle.query_syntax.specs.Words.{words}
use Rattle.query_syntax.specs.declared.fault.QueryFault.TheVariants.{NotText, TooDeep}
use Rattle.query_syntax.specs.declared.fault.WordFault.{WordFault}
use Rattle.query_syntax.specs.declared.query.Choice.TheVariants.{All}
use Rattle.query_syntax.specs.declared.query.Parsed.{Parsed}
use Rattle.query_syntax.specs.declared.query.Parsed.TheVariants.{Skip, Ask, Fault}
use Rattle.query_syntax.specs.declared.query.Query.{Query}
use Rattle.query_syntax.specs.declared.query.Verb.{Verb}

-- the query of a verb and filters: where there is none of a kind, everything counts
abbrev pub query_with : Verb → Filters → Query
query_with verb filters = record {
  verb = verb;
  region = unwrap_or filters.region whole_space;
  sets = map (λ set. unwrap_or set All) filters.sets;
  time = unwrap_or filters.time all_bins;
}

-- the query, if its tiles aren't too deep
abbrev pub query_if_fits : Schema → Query → Result Query WordFault
query_if_fits schema q = if is_too_deep schema.depth q.region.z q.verb then fault_at TooDeep 2 else Ok q

-- what a verb and the words after its own ask for
unfoldable pub query_after_verb : Schema → Verb → List (List ℕ) → Result Query WordFault
query_after_verb schema verb words = do
  filters ← filters_at schema verb (verb_words verb + 1) words
  query_if_fits schema (query_with verb filters)

-- what the words of a line ask for
unfoldable pub query_of : Schema → List (List ℕ) → Result Query WordFault
query_of schema words = do
  verb ← verb_at schema.depth schema.categories words
  query_after_verb schema verb.0 verb.1

-- a query that was read, or its fault
abbrev pub parsed_of : Result Query WordFault → Parsed
parsed_of (Ok q) = Ask q
parsed_of (Err e) = Fault e.fault e.word

-- words that are there are read
abbrev pub words_meaning : Schema → List (List ℕ) → Parsed
words_meaning schema [] = Skip
words_meaning schema (word ∷ words) = parsed_of (query_of schema (word ∷ words))

-- the line begins with `#`
abbrev pub is_comment : List ℕ → Bool
is_comment [] = false
is_comment (b ∷ bytes) = b == 35

-- the meaning of a line
unfoldable pub meaning : Schema → List ℕ → Parsed
meaning schema line =
    if not (is_utf8 line) then Fault NotText 1 else (
    if is_comment line then Skip else words_meaning schema (words line))

-- What the filters of a verb said is in order for the schema
pub record FiltersFit (schema : Schema) (verb : Verb) (filters : Filters) : Type 0 where
  pub region : is_tile schema.depth (unwrap_or filters.region whole_space) ≡ true
  pub places : length filters.sets ≡ 4
  pub sets : are_choices schema.categories (map (λ set. unwrap_or set All) filters.sets) ≡ true
  pub time : is_span (unwrap_or filters.time all_bins) ≡ true
  pub none : takes_filters verb ≡ false → filters ≡ no_filters
  pub own : is_series verb ≡ true → filters.time ≡ None
  pub world : is_window verb ≡ true → filters.region ≡ None

-- what other filters said is in order where what these said is
abbrev pub KeepsFit : Schema → Filters → Filters → Verb → Type 0
KeepsFit schema filters others verb = FiltersFit schema verb filters → FiltersFit schema verb others

-- the query that is asked, if there is one, is valid
abbrev pub asks_valid : Schema → Parsed → Bool
asks_valid schema Skip = true
asks_valid schema (Ask q) = is_valid_query schema q
asks_valid schema (Fault fault n) = true
