-- Steps of reading filters.
use Rattle.std.proofs.Common.{◌≡◌, ℕ, ◌+◌, ◌<◌, ◌≤◌, Bool, true, false, List, ◌∷◌, length, get_or, cond, sym, ◌∙◌, ap, refl, arith, subst, Option, Some, None, Result, set}
use Rattle.std.specs.Prelude.{codes, is_some, count_by, slice_set}
use Rattle.std.specs.Str.{bytes_eq}
use Rattle.std.proofs.lemmas.List.Sums.{sum_by-set, count_by-le-length}
use Rattle.query_syntax.proofs.SchemaLimits.{has_item-get}
use Rattle.cube_view.specs.declared.schema.Schema.{Schema}
use Rattle.query_syntax.specs.Filters.{Filters, words_read, ReadsOn, one_if, filters_used}
use Rattle.query_syntax.specs.Filters.Wanted.{Name, Region, Item, From}
use Rattle.query_syntax.specs.Items.{has_item}
use Rattle.query_syntax.specs.Verbs.{takes_filters, is_series, is_window}
use Rattle.query_syntax.specs.declared.fault.WordFault.{WordFault}
use Rattle.query_syntax.specs.declared.query.Choice.{Choice}
use Rattle.query_syntax.specs.declared.query.Verb.{Verb}

pub reads_on_from : {X : Type 0} (whole part : Result Filters WordFault) (r : Result X WordFault) (after : X → Result Filters WordFault) → whole ≡ part → ReadsOn part r after → ReadsOn whole r after
reads_on_from whole part r after e h = subst (λ (w : Result Filters WordFault). ReadsOn w r after) (sym e) h

pub region_begins : (schema : Schema) (verb : Verb) (filters : Filters) (n : ℕ) (word : List ℕ) (ws : List (List ℕ)) → takes_filters verb ≡ true → bytes_eq word (codes "in") ≡ true → is_window verb ≡ false → is_some filters.region ≡ false → words_read schema verb Name filters n (word ∷ ws) ≡ words_read schema verb Region filters (n + 1) ws
region_begins schema verb filters n word ws takes is window fresh = rw (takes, is, window, fresh) refl

pub item_begins : (schema : Schema) (verb : Verb) (filters : Filters) (n : ℕ) (word : List ℕ) (ws : List (List ℕ)) → takes_filters verb ≡ true → bytes_eq word (codes "in") ≡ false → bytes_eq word (codes "with") ≡ true → words_read schema verb Name filters n (word ∷ ws) ≡ words_read schema verb Item filters (n + 1) ws
item_begins schema verb filters n word ws takes other is = rw (takes, other, is) refl

pub time_begins : (schema : Schema) (verb : Verb) (filters : Filters) (n : ℕ) (word : List ℕ) (ws : List (List ℕ)) → takes_filters verb ≡ true → bytes_eq word (codes "in") ≡ false → bytes_eq word (codes "with") ≡ false → bytes_eq word (codes "time") ≡ true → is_series verb ≡ false → is_some filters.time ≡ false → words_read schema verb Name filters n (word ∷ ws) ≡ words_read schema verb From filters (n + 1) ws
time_begins schema verb filters n word ws takes other another is bins fresh = rw (takes, other, another, is, bins, fresh) refl

abbrev weight : Option Choice → ℕ
weight set = cond (is_some set) 1 0

pub count-set : (sets : List (Option Choice)) (k : ℕ) (choice : Choice) → k < length sets → has_item sets k ≡ false → count_by is_some (slice_set sets k (Some choice)) ≡ count_by is_some sets + 1
count-set sets k choice l fresh =
    let none : is_some (get_or sets k None) ≡ false = sym (has_item-get sets k None l) ∙ fresh in
    let weighs : weight (get_or sets k None) ≡ 0 = ap (λ (b : Bool). cond {A = ℕ} b 1 0) none in
    let sums : count_by is_some (slice_set sets k (Some choice)) + weight (get_or sets k None) ≡ count_by is_some sets + 1 = sum_by-set weight sets k (Some choice) None l in
    omega arith

-- a test counts at most one
pub one_if-le : (b : Bool) → one_if b ≤ 1
one_if-le true = omega arith
one_if-le false = omega arith

pub used_few : (filters : Filters) → length filters.sets ≡ 4 → filters_used filters ≤ 6
used_few filters places = omega (arith, one_if-le (is_some filters.region), one_if-le (is_some filters.time), count_by-le-length is_some filters.sets)
