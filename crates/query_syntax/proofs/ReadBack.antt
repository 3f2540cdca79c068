-- A printed query is read back as itself.
use Rattle.std.proofs.Common.{◌≡◌, ℕ, ◌+◌, ◌≤◌, Bool, true, false, List, [], Option, Some, None, ◌∷◌, ◌++◌, length, sym, ◌∙◌, ap, refl, append_assoc, Result, Ok}
use Rattle.std.specs.Prelude.{not, ◌&&◌, ◌||◌, ◌==◌, map, replicate}
use Rattle.std.specs.List.{list_all}
use Rattle.std.specs.Str.{is_utf8}
use Rattle.std.proofs.lemmas.Bool.{eqb-true, false≢true, and_parts, and_from, not-true}
use Rattle.std.proofs.lemmas.List.Folds.{list_all-append}
use Rattle.cube_view.specs.Limits.{all_distinct, category_in_range, column_names, parts_in_range, texts_distinct, values_distinct, with_weight}
use Rattle.cube_view.proofs.SchemaBounds.{depth_bounds}
use Rattle.cube_view.specs.declared.address.Tile.{Tile}
use Rattle.cube_view.specs.declared.category.Category.{Category}
use Rattle.cube_view.specs.declared.schema.Schema.{Schema}
use Rattle.query_syntax.specs.Filters.{Filters, words_read, no_filters, filters_at}
use Rattle.query_syntax.specs.Filters.Wanted.{Name}
use Rattle.query_syntax.specs.Meaning.{meaning, query_of, query_after_verb, query_if_fits, query_with, parsed_of, is_comment}
use Rattle.query_syntax.specs.Queries.{is_all, is_all_bins, is_whole_space, is_too_deep, is_valid_query, has_no_filters}
use Rattle.cube_view.specs.Results.{◌>>=◌}
use Rattle.query_syntax.specs.Spelling.{verb_name, verb_texts, region_texts, choices_texts, span_texts, further_texts, spaced, query_text}
use Rattle.query_syntax.specs.Verbs.{verb_words, takes_filters, is_series, is_window}
use Rattle.query_syntax.specs.Words.{words}
use Rattle.query_syntax.specs.declared.fault.WordFault.{WordFault}
use Rattle.query_syntax.specs.declared.query.Choice.{Choice}
use Rattle.query_syntax.specs.declared.query.Parsed.TheVariants.{Ask}
use Rattle.query_syntax.specs.declared.query.Query.{Query}
use Rattle.query_syntax.specs.declared.query.Span.{Span}
use Rattle.query_syntax.specs.declared.query.Verb.{Verb}
use Rattle.query_syntax.specs.declared.query.Verb.TheVariants.{Count, Hist, Map, Series, Window, Cross, Best, Stat, Told, Quit}
use Rattle.query_syntax.proofs.PrintedFilters.{Says, filters_with, region_said, said, span_said, nones, region_reads, span_reads, items_read, region_texts_are_words, span_texts_are_words, choices_texts_are_words, region_back, span_back, choices_back, no_items, none_said}
use Rattle.query_syntax.proofs.PrintedVerbs.{verb_reads, verb_name_is_word, verb_texts_are_words, small_tile}
use Rattle.cube_view.proofs.SchemaBounds.{each_in_range}
use Rattle.query_syntax.proofs.Sets.{or_all}
use Rattle.query_syntax.proofs.ValidParts.{valid_parts}
use Rattle.query_syntax.specs.Queries.{ValidParts}
use Rattle.query_syntax.proofs.WholeTexts.{is_word, words_listed}

-- what the limits of a schema give

shallow : (schema : Schema) → schema.depth ≤ 20
shallow schema = (depth_bounds schema).1

all_texts_distinct : (schema : Schema) → texts_distinct schema.categories schema.weight ≡ true
all_texts_distinct schema =
    (and_parts (parts_in_range schema.depth schema.categories schema.width schema.batch schema.weight) (texts_distinct schema.categories schema.weight) schema.limits).1

each_distinct : (schema : Schema) → list_all values_distinct schema.categories ≡ true
each_distinct schema = (and_parts (all_distinct (column_names schema.categories schema.weight)) (list_all values_distinct schema.categories) (all_texts_distinct schema)).1

distinct_rest : (t : List ℕ) (ts : List (List ℕ)) → all_distinct (t ∷ ts) ≡ true → all_distinct ts ≡ true
distinct_rest t ts h = (and_parts _ (all_distinct ts) h).1

distinct_past_weight : (weight : Option (List ℕ)) (names : List (List ℕ)) → all_distinct (with_weight weight names) ≡ true → all_distinct names ≡ true
distinct_past_weight None names h = h
distinct_past_weight (Some name) names h = distinct_rest name names h

names_distinct : (schema : Schema) → all_distinct (map (λ (c : Category). c.name) schema.categories) ≡ true
names_distinct schema =
    let names : List (List ℕ) = with_weight schema.weight (map (λ (c : Category). c.name) schema.categories) in
    let columns : all_distinct (column_names schema.categories schema.weight) ≡ true = (and_parts _ (list_all values_distinct schema.categories) (all_texts_distinct schema)).0 in
    distinct_past_weight schema.weight (map (λ (c : Category). c.name) schema.categories)
    (distinct_rest (116 ∷ 105 ∷ 109 ∷ 101 ∷ []) names (distinct_rest (121 ∷ []) ((116 ∷ 105 ∷ 109 ∷ 101 ∷ []) ∷ names) (distinct_rest (120 ∷ []) ((121 ∷ []) ∷ (116 ∷ 105 ∷ 109 ∷ 101 ∷ []) ∷ names) columns)))

-- the filters of a query, as printed and as read
abbrev filter_texts : Schema → Query → List (List ℕ)
filter_texts schema q = region_texts q.region ++ (choices_texts schema.categories q.sets ++ span_texts q.time)

further_are : (schema : Schema) (q : Query) → further_texts schema q ≡ verb_texts schema.categories q.verb ++ filter_texts schema q
further_are schema q =
    let verb : List (List ℕ) = verb_texts schema.categories q.verb in
    let items : List (List ℕ) = choices_texts schema.categories q.sets in
    append_assoc (verb ++ region_texts q.region) items (span_texts q.time) ∙ append_assoc verb (region_texts q.region) (items ++ span_texts q.time)

abbrev filters_of : Query → Filters
filters_of q = filters_with (region_said q.region) (map said q.sets) (span_said q.time)

own_bins : (series all : Bool) → not series || all ≡ true → all ≡ false → series ≡ false
own_bins false all h e = refl
own_bins true all h e = sym h ∙ e

not_whole : (t : Tile) → (t.z == 0) ≡ false → is_whole_space t ≡ false
not_whole t e = ap (λ (b : Bool). b && (t.x == 0) && (t.y == 0)) e

filters_say : (schema : Schema) (q : Query) → ValidParts schema q → takes_filters q.verb ≡ true → Says schema q.verb no_filters (filter_texts schema q) (filters_of q)
filters_say schema q v takes =
    let places : length q.sets ≡ 4 = eqb-true (length q.sets) 4 v.places in
    let span : Says schema q.verb (filters_with (region_said q.region) (map said q.sets) None) (span_texts q.time) (filters_of q) =
    span_reads schema q.verb q.time (region_said q.region) (map said q.sets) v.time takes (own_bins (is_series q.verb) (is_all_bins q.time) v.series) in
    let items : Says schema q.verb (filters_with (region_said q.region) (nones q.sets) None) (choices_texts schema.categories q.sets ++ span_texts q.time) (filters_of q) =
    items_read schema q.verb (region_said q.region) (span_texts q.time) (filters_of q) [] schema.categories [] q.sets takes refl (names_distinct schema) (each_distinct schema) (each_in_range schema) refl v.sets span in
    let whole : Says schema q.verb (filters_with None (nones q.sets) None) (filter_texts schema q) (filters_of q) =
    region_reads schema q.verb q.region (nones q.sets) (choices_texts schema.categories q.sets ++ span_texts q.time) (filters_of q) (shallow schema) v.region takes (λ e. own_bins (is_window q.verb) (is_whole_space q.region) v.window (not_whole q.region e)) items in
    λ n. ap (λ (k : ℕ). words_read schema q.verb Name (filters_with None (replicate k None) None) n (filter_texts schema q)) (sym places) ∙ whole n

-- where one of two tests holds and the first does not, the second does
pub or_rest : (a b : Bool) → a || b ≡ true → a ≡ false → b ≡ true
or_rest true b h e = absurd (false≢true (sym e))
or_rest false b h e = h

none_say : (schema : Schema) (q : Query) → ValidParts schema q → takes_filters q.verb ≡ false → Says schema q.verb no_filters (filter_texts schema q) (filters_of q)
none_say schema q v takes =
    let none : has_no_filters q ≡ true = or_rest (takes_filters q.verb) (has_no_filters q) v.takes takes in
    let bins : is_all_bins q.time ≡ true = (and_parts _ (is_all_bins q.time) none).1 in
    let two = (and_parts _ (is_all_bins q.time) none).0 in
    let all : list_all is_all q.sets ≡ true = (and_parts (is_whole_space q.region) (list_all is_all q.sets) two).1 in
    let space : is_whole_space q.region ≡ true = (and_parts (is_whole_space q.region) (list_all is_all q.sets) two).0 in
    let level : (q.region.z == 0) ≡ true = (and_parts (q.region.z == 0) _ ((and_parts _ (q.region.y == 0) space).0)).0 in
    let places : length q.sets ≡ 4 = eqb-true (length q.sets) 4 v.places in
    let sets : map said q.sets ≡ replicate 4 None = none_said q.sets all ∙ ap (λ (k : ℕ). replicate k None) places in
    λ n. rw (level, no_items schema.categories q.sets all, bins, sets) refl

says_by : (takes : Bool) (schema : Schema) (q : Query) → takes ≡ takes_filters q.verb → ValidParts schema q → Says schema q.verb no_filters (filter_texts schema q) (filters_of q)
says_by true schema q is v = filters_say schema q v (sym is)
says_by false schema q is v = none_say schema q v (sym is)

abbrev query_from : Verb → Tile → List Choice → Span → Query
query_from verb region sets time = record { verb = verb; region = region; sets = sets; time = time }

query_back : (schema : Schema) (q : Query) → ValidParts schema q → query_with q.verb (filters_of q) ≡ q
query_back schema q v =
    let sets : List Choice = map or_all (map said q.sets) in
    ap (λ (t : Tile). query_from q.verb t sets (query_with q.verb (filters_of q)).time) (region_back q.region (small_tile schema.depth q.region (shallow schema) v.region))
    ∙ ap (λ (s : List Choice). query_from q.verb q.region s (query_with q.verb (filters_of q)).time) (choices_back q.sets)
    ∙ ap (λ (t : Span). query_from q.verb q.region q.sets t) (span_back q.time)

query_reads : (schema : Schema) (q : Query) → ValidParts schema q → query_of schema (verb_name q.verb ∷ further_texts schema q) ≡ Ok q
unfolding query_of query_after_verb filters_at
query_reads schema q v =
    let deep : is_too_deep schema.depth q.region.z q.verb ≡ false = not-true _ v.deep in
    ap (λ (ws : List (List ℕ)). query_of schema (verb_name q.verb ∷ ws)) (further_are schema q)
    ∙ ap (λ (r : Result (Verb × List (List ℕ)) WordFault). r >>= λ verb. query_after_verb schema verb.0 verb.1) (verb_reads schema.depth schema.categories q.verb (filter_texts schema q) (shallow schema) (names_distinct schema) v.verb)
    ∙ ap (λ (r : Result Filters WordFault). r >>= λ filters. query_if_fits schema (query_with q.verb filters)) (says_by (takes_filters q.verb) schema q refl v (verb_words q.verb + 1))
    ∙ ap (query_if_fits schema) (query_back schema q v)
    ∙ rw deep refl

further_words : (schema : Schema) (q : Query) → ValidParts schema q → list_all is_word (further_texts schema q) ≡ true
further_words schema q v =
    ap (list_all is_word) (further_are schema q)
    ∙ list_all-append is_word (verb_texts schema.categories q.verb) (filter_texts schema q)
    ∙ and_from _ _ (verb_texts_are_words schema.depth schema.categories q.verb (shallow schema) (each_in_range schema) v.verb)
    (list_all-append is_word (region_texts q.region) (choices_texts schema.categories q.sets ++ span_texts q.time)
    ∙ and_from _ _ (region_texts_are_words schema.depth q.region (shallow schema) v.region)
    (list_all-append is_word (choices_texts schema.categories q.sets) (span_texts q.time)
    ∙ and_from _ _ (choices_texts_are_words schema.categories q.sets (each_in_range schema)) (span_texts_are_words q.time v.time)))

no_comment : (verb : Verb) (rest : List ℕ) → is_comment (verb_name verb ++ rest) ≡ false
no_comment Count rest = refl
no_comment (Hist k) rest = refl
no_comment (Map down) rest = refl
no_comment (Series from wide rows) rest = refl
no_comment (Window rect) rest = refl
no_comment (Cross k l) rest = refl
no_comment (Best down rows) rest = refl
no_comment Stat rest = refl
no_comment Told rest = refl
no_comment Quit rest = refl

-- the line of a valid query asks for it
pub read_back : (schema : Schema) (q : Query) → is_valid_query schema q ≡ true → is_utf8 (query_text schema q) ≡ true → meaning schema (query_text schema q) ≡ Ask q
unfolding meaning query_text
read_back schema q h utf8 =
    let v = valid_parts schema q h in
    let is : words (verb_name q.verb ++ spaced (further_texts schema q)) ≡ verb_name q.verb ∷ further_texts schema q =
    words_listed (verb_name q.verb) (further_texts schema q) (and_from _ _ (verb_name_is_word q.verb) (further_words schema q v)) in
    rw (utf8, no_comment q.verb (spaced (further_texts schema q)), is) (ap parsed_of (query_reads schema q v))
