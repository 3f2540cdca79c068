-- Printed filters are read back.
use Rattle.std.proofs.Common.{◌≡◌, ℕ, ◌+◌, ◌<◌, ◌≤◌, ◌^◌, Bool, true, false, List, [], ◌∷◌, ◌++◌, cond, length, sym, ◌∙◌, ap, refl, arith, append_assoc, Option, Some, None, Ok}
use Rattle.std.specs.Prelude.{◌==◌, nat_le, nat_lt, map, replicate, slice_set, unwrap_or, codes}
use Rattle.std.specs.Fmt.{decimal}
use Rattle.std.specs.List.{list_all}
use Rattle.std.proofs.Math.Seq.{set-append_seam}
use Rattle.std.proofs.lemmas.Bool.{leb-true, eqb-true, false≢true, and_parts, and_from}
use Rattle.std.proofs.lemmas.Bool.Decides.{nat_tests}
use Rattle.std.proofs.lemmas.List.Folds.{list_all-append}
use Rattle.cube_view.specs.Limits.{all_distinct, category_in_range, values_distinct}
use Rattle.cube_view.specs.declared.address.Tile.{Tile}
use Rattle.cube_view.specs.declared.category.Category.{Category}
use Rattle.cube_view.specs.declared.schema.Schema.{Schema}
use Rattle.query_syntax.specs.Filters.{Filters, words_read}
use Rattle.query_syntax.specs.Items.{item_at}
use Rattle.query_syntax.specs.Filters.Wanted.{Name}
use Rattle.query_syntax.specs.Queries.{is_choice, are_choices, is_all, is_span, is_all_bins, whole_space, all_bins}
use Rattle.query_syntax.specs.Spelling.{tile_text, region_texts, item_text, choice_texts, choices_texts, span_texts}
use Rattle.query_syntax.specs.Tiles.{is_tile}
use Rattle.query_syntax.specs.Verbs.{bins, takes_filters, is_series, is_window}
use Rattle.query_syntax.specs.declared.query.Choice.{Choice}
use Rattle.query_syntax.specs.declared.query.Choice.TheVariants.{All, Only}
use Rattle.query_syntax.specs.declared.query.Span.{Span}
use Rattle.query_syntax.specs.declared.query.Verb.{Verb}
use Rattle.query_syntax.proofs.FilterSteps.{region_begins, item_begins, time_begins}
use Rattle.query_syntax.proofs.PrintedItems.{item_reads, item_is_word, length-push}
use Rattle.query_syntax.proofs.PrintedNumbers.{number_reads, decimal_is_word}
use Rattle.query_syntax.proofs.PrintedVerbs.{tile_reads, tile_is_word, SmallTile, from_zero}
use Rattle.query_syntax.proofs.Sets.{or_all}
use Rattle.query_syntax.proofs.WholeTexts.{is_word}

-- what printed filters say
abbrev pub region_said : Tile → Option Tile
region_said t = cond (t.z == 0) None (Some t)

abbrev pub said : Choice → Option Choice
said All = None
said (Only set) = Some (Only set)

abbrev pub span_said : Span → Option Span
span_said span = cond (is_all_bins span) None (Some span)

-- the words from a filter's name on say the filters
abbrev pub Says : Schema → Verb → Filters → List (List ℕ) → Filters → Type 0
Says schema verb before words after = (n : ℕ) → words_read schema verb Name before n words ≡ Ok after

abbrev pub filters_with : Option Tile → List (Option Choice) → Option Span → Filters
filters_with region sets time = record { region = region; sets = sets; time = time }

-- the region

region_by : (whole : Bool) (schema : Schema) (verb : Verb) (t : Tile) (sets : List (Option Choice)) (ws : List (List ℕ)) (after : Filters) → schema.depth ≤ 20 → is_tile schema.depth t ≡ true → takes_filters verb ≡ true → (whole ≡ false → is_window verb ≡ false) → Says schema verb (filters_with (cond whole None (Some t)) sets None) ws after → Says schema verb (filters_with None sets None) (cond whole [] (codes "in" ∷ tile_text t ∷ []) ++ ws) after
region_by true schema verb t sets ws after few h takes window goes_on = goes_on
region_by false schema verb t sets ws after few h takes window goes_on = λ n.
    region_begins schema verb (filters_with None sets None) n (codes "in") (tile_text t ∷ ws) takes refl (window refl) refl
    ∙ rw (tile_reads schema.depth t few h) (goes_on (n + 1 + 1))

pub region_reads : (schema : Schema) (verb : Verb) (t : Tile) (sets : List (Option Choice)) (ws : List (List ℕ)) (after : Filters) → schema.depth ≤ 20 → is_tile schema.depth t ≡ true → takes_filters verb ≡ true → ((t.z == 0) ≡ false → is_window verb ≡ false) → Says schema verb (filters_with (region_said t) sets None) ws after → Says schema verb (filters_with None sets None) (region_texts t ++ ws) after
region_reads schema verb t sets ws after few h takes window goes_on = region_by (t.z == 0) schema verb t sets ws after few h takes window goes_on

-- the span

span_by : (whole : Bool) (schema : Schema) (verb : Verb) (span : Span) (region : Option Tile) (sets : List (Option Choice)) → is_span span ≡ true → takes_filters verb ≡ true → (whole ≡ false → is_series verb ≡ false) → Says schema verb (filters_with region sets None) (cond whole [] (codes "time" ∷ decimal span.from ∷ decimal span.to ∷ [])) (filters_with region sets (cond whole None (Some span)))
span_by true schema verb span region sets h takes series = λ n. refl
span_by false schema verb span region sets h takes series = λ n.
    let order : span.from ≤ span.to = leb-true span.from span.to ((and_parts _ (nat_le span.to bins) h).0) in
    let within : span.to ≤ 2 ^ 32 = leb-true span.to bins ((and_parts (nat_le span.from span.to) _ h).1) in
    let forward : nat_lt span.to span.from ≡ false = grind (arith, nat_tests, order) in
    time_begins schema verb (filters_with region sets None) n (codes "time") (decimal span.from ∷ decimal span.to ∷ []) takes refl refl refl (series refl) refl
    ∙ rw (number_reads 0 bins span.from (n + 1) (omega arith) (from_zero span.from bins (omega arith)), number_reads 0 bins span.to (n + 1 + 1) (omega arith) (from_zero span.to bins within), forward) refl

pub span_reads : (schema : Schema) (verb : Verb) (span : Span) (region : Option Tile) (sets : List (Option Choice)) → is_span span ≡ true → takes_filters verb ≡ true → (is_all_bins span ≡ false → is_series verb ≡ false) → Says schema verb (filters_with region sets None) (span_texts span) (filters_with region sets (span_said span))
span_reads schema verb span region sets h takes series = span_by (is_all_bins span) schema verb span region sets h takes series

-- the items

abbrev pub nones : List Choice → List (Option Choice)
nones choices = replicate (length choices) None

all_none : (choices : List Choice) → are_choices [] choices ≡ true → map said choices ≡ nones choices
all_none [] h = refl
all_none (All ∷ choices) h = ap (λ (s : List (Option Choice)). None ∷ s) (all_none choices h)
all_none (Only set ∷ choices) h = absurd (false≢true h)

-- the item of one category, if it is printed
item_by : (schema : Schema) (verb : Verb) (region : Option Tile) (ws : List (List ℕ)) (after : Filters) (pre : List Category) (c : Category) (cs : List Category) (front : List (Option Choice)) (choice : Choice) (choices : List Choice) → takes_filters verb ≡ true → schema.categories ≡ pre ++ c ∷ cs → all_distinct (map (λ (c : Category). c.name) schema.categories) ≡ true → values_distinct c ≡ true → category_in_range c ≡ true → length front ≡ length pre → is_choice (length c.values) choice ≡ true → Says schema verb (filters_with region (front ++ said choice ∷ nones choices) None) (choices_texts cs choices ++ ws) after → Says schema verb (filters_with region (front ++ None ∷ nones choices) None) ((choice_texts c choice ++ choices_texts cs choices) ++ ws) after
item_by schema verb region ws after pre c cs front All choices takes is names distinct range size h rest = rest
item_by schema verb region ws after pre c cs front (Only set) choices takes is names distinct range size h rest = λ n.
    let item : item_at schema.categories (front ++ None ∷ nones choices) (n + 1) (item_text c set) ≡ Ok (length pre, Only set) =
    ap (λ (categories : List Category). item_at categories (front ++ None ∷ nones choices) (n + 1) (item_text c set)) is
    ∙ item_reads pre c cs front (nones choices) (n + 1) set (ap (λ (categories : List Category). all_distinct (map (λ (x : Category). x.name) categories)) (sym is) ∙ names) distinct range size h in
    let put : slice_set (front ++ None ∷ nones choices) (length pre) (Some (Only set)) ≡ front ++ Some (Only set) ∷ nones choices =
    ap (λ (k : ℕ). slice_set (front ++ None ∷ nones choices) k (Some (Only set))) (sym size) ∙ set-append_seam front None (nones choices) (Some (Only set)) in
    item_begins schema verb (filters_with region (front ++ None ∷ nones choices) None) n (codes "with") (item_text c set ∷ (choices_texts cs choices ++ ws)) takes refl refl
    ∙ rw (item, put) (rest (n + 1 + 1))

-- the items of the categories from one on
pub items_read : (schema : Schema) (verb : Verb) (region : Option Tile) (ws : List (List ℕ)) (after : Filters) (pre cs : List Category) (front : List (Option Choice)) (choices : List Choice) → takes_filters verb ≡ true → schema.categories ≡ pre ++ cs → all_distinct (map (λ (c : Category). c.name) schema.categories) ≡ true → list_all values_distinct cs ≡ true → list_all category_in_range cs ≡ true → length front ≡ length pre → are_choices cs choices ≡ true → Says schema verb (filters_with region (front ++ map said choices) None) ws after → Says schema verb (filters_with region (front ++ nones choices) None) (choices_texts cs choices ++ ws) after
items_read schema verb region ws after pre [] front choices takes is names distinct range size h goes_on = λ n.
    ap (λ (s : List (Option Choice)). words_read schema verb Name (filters_with region (front ++ s) None) n ws) (sym (all_none choices h)) ∙ goes_on n
items_read schema verb region ws after pre (c ∷ cs) front [] takes is names distinct range size h goes_on = goes_on
items_read schema verb region ws after pre (c ∷ cs) front (choice ∷ choices) takes is names distinct range size h goes_on =
    let sets : List (Option Choice) = front ++ said choice ∷ nones choices in
    let end : Says schema verb (filters_with region ((front ++ said choice ∷ []) ++ map said choices) None) ws after = λ n.
    ap (λ (s : List (Option Choice)). words_read schema verb Name (filters_with region s None) n ws) (append_assoc front (said choice ∷ []) (map said choices)) ∙ goes_on n in
    let later : Says schema verb (filters_with region ((front ++ said choice ∷ []) ++ nones choices) None) (choices_texts cs choices ++ ws) after =
    items_read schema verb region ws after (pre ++ c ∷ []) cs (front ++ said choice ∷ []) choices takes (is ∙ sym (append_assoc pre (c ∷ []) cs)) names ((and_parts (values_distinct c) _ distinct).1) ((and_parts (category_in_range c) _ range).1) (length-push front (said choice) ∙ ap (λ (n : ℕ). n + 1) size ∙ sym (length-push pre c)) ((and_parts (is_choice (length c.values) choice) _ h).1) end in
    let rest : Says schema verb (filters_with region (front ++ said choice ∷ nones choices) None) (choices_texts cs choices ++ ws) after = λ n.
    ap (λ (s : List (Option Choice)). words_read schema verb Name (filters_with region s None) n (choices_texts cs choices ++ ws)) (sym (append_assoc front (said choice ∷ []) (nones choices))) ∙ later n in
    item_by schema verb region ws after pre c cs front choice choices takes is names ((and_parts (values_distinct c) _ distinct).0) ((and_parts (category_in_range c) _ range).0) size ((and_parts (is_choice (length c.values) choice) _ h).0) rest

-- the filters of a query as words

region_words_by : (whole : Bool) (depth : ℕ) (t : Tile) → depth ≤ 20 → is_tile depth t ≡ true → list_all is_word (cond whole [] (codes "in" ∷ tile_text t ∷ [])) ≡ true
region_words_by true depth t few h = refl
region_words_by false depth t few h = and_from _ _ (tile_is_word depth t few h) refl

pub region_texts_are_words : (depth : ℕ) (t : Tile) → depth ≤ 20 → is_tile depth t ≡ true → list_all is_word (region_texts t) ≡ true
region_texts_are_words depth t few h = region_words_by (t.z == 0) depth t few h

span_words_by : (whole : Bool) (span : Span) → is_span span ≡ true → list_all is_word (cond whole [] (codes "time" ∷ decimal span.from ∷ decimal span.to ∷ [])) ≡ true
span_words_by true span h = refl
span_words_by false span h =
    let order : span.from ≤ span.to = leb-true span.from span.to ((and_parts _ (nat_le span.to bins) h).0) in
    let within : span.to ≤ 2 ^ 32 = leb-true span.to bins ((and_parts (nat_le span.from span.to) _ h).1) in
    and_from _ _ (decimal_is_word span.from (omega arith)) (and_from _ _ (decimal_is_word span.to (omega arith)) refl)

pub span_texts_are_words : (span : Span) → is_span span ≡ true → list_all is_word (span_texts span) ≡ true
span_texts_are_words span h = span_words_by (is_all_bins span) span h

choice_words : (c : Category) (choice : Choice) → category_in_range c ≡ true → list_all is_word (choice_texts c choice) ≡ true
choice_words c All h = refl
choice_words c (Only set) h = and_from _ _ (item_is_word c set h) refl

pub choices_texts_are_words : (categories : List Category) (choices : List Choice) → list_all category_in_range categories ≡ true → list_all is_word (choices_texts categories choices) ≡ true
choices_texts_are_words [] choices h = refl
choices_texts_are_words (c ∷ categories) [] h = refl
choices_texts_are_words (c ∷ categories) (choice ∷ choices) h =
    list_all-append is_word (choice_texts c choice) (choices_texts categories choices)
    ∙ and_from _ _ (choice_words c choice ((and_parts (category_in_range c) _ h).0)) (choices_texts_are_words categories choices ((and_parts (category_in_range c) _ h).1))

-- what the filters said is what the query has

abbrev tile_of : ℕ → ℕ → ℕ → Tile
tile_of z x y = record { z = z; x = x; y = y }

is_whole : (t : Tile) → t.z ≡ 0 → t.x ≡ 0 → t.y ≡ 0 → whole_space ≡ t
is_whole t z x y = ap (λ (n : ℕ). tile_of n 0 0) (sym z) ∙ ap (λ (n : ℕ). tile_of t.z n 0) (sym x) ∙ ap (λ (n : ℕ). tile_of t.z t.x n) (sym y)

region_back_by : (whole : Bool) (t : Tile) → whole ≡ (t.z == 0) → SmallTile t → unwrap_or (cond whole None (Some t)) whole_space ≡ t
region_back_by true t is small =
    let z : t.z ≡ 0 = eqb-true t.z 0 (sym is) in
    let column : t.x < 2 ^ 0 = rw z at small.column in
    let row : t.y < 2 ^ 0 = rw z at small.row in
    is_whole t z (omega (arith, column)) (omega (arith, row))
region_back_by false t is small = refl

pub region_back : (t : Tile) → SmallTile t → unwrap_or (region_said t) whole_space ≡ t
region_back t small = region_back_by (t.z == 0) t refl small

abbrev span_of : ℕ → ℕ → Span
span_of from to = record { from = from; to = to }

span_back_by : (whole : Bool) (span : Span) → whole ≡ is_all_bins span → unwrap_or (cond whole None (Some span)) all_bins ≡ span
span_back_by true span is =
    let from : span.from ≡ 0 = eqb-true span.from 0 ((and_parts _ (span.to == bins) (sym is)).0) in
    let to : span.to ≡ bins = eqb-true span.to bins ((and_parts (span.from == 0) _ (sym is)).1) in
    ap (λ (n : ℕ). span_of n bins) (sym from) ∙ ap (λ (n : ℕ). span_of span.from n) (sym to)
span_back_by false span is = refl

pub span_back : (span : Span) → unwrap_or (span_said span) all_bins ≡ span
span_back span = span_back_by (is_all_bins span) span refl

pub choices_back : (choices : List Choice) → map or_all (map said choices) ≡ choices
choices_back [] = refl
choices_back (All ∷ choices) = ap (λ (s : List Choice). All ∷ s) (choices_back choices)
choices_back (Only set ∷ choices) = ap (λ (s : List Choice). Only set ∷ s) (choices_back choices)

-- without filters

pub no_items : (categories : List Category) (choices : List Choice) → list_all is_all choices ≡ true → choices_texts categories choices ≡ []
no_items [] choices h = refl
no_items (c ∷ categories) [] h = refl
no_items (c ∷ categories) (All ∷ choices) h = no_items categories choices h
no_items (c ∷ categories) (Only set ∷ choices) h = absurd (false≢true h)

pub none_said : (choices : List Choice) → list_all is_all choices ≡ true → map said choices ≡ nones choices
none_said [] h = refl
none_said (All ∷ choices) h = ap (λ (s : List (Option Choice)). None ∷ s) (none_said choices h)
none_said (Only set ∷ choices) h = absurd (false≢true h)
