-- Values listed with bars between them.
use Rattle.std.proofs.Common.{◌≡◌, ℕ, zero, suc, ◌+◌, ◌<◌, ◌≤◌, Bool, true, false, List, [], ◌∷◌, ◌++◌, length, get_or, take, cond, sym, ◌∙◌, ap, refl, arith, append_assoc, append-nil, add-one}
use Rattle.std.specs.List.{join_with_byte}
use Rattle.std.proofs.lemmas.Grind.{flat_map-append}
use Rattle.cube_view.specs.declared.category.Category.{Category}
use Rattle.query_syntax.specs.Spelling.{value_text, value_texts, value_listed, choice_texts, choices_texts, spaced, after_space}
use Rattle.query_syntax.specs.Words.{bar}
use Rattle.query_syntax.specs.declared.query.Choice.{Choice}

-- no text is listed yet
abbrev pub lists_none : List (List ℕ) → Bool
lists_none [] = true
lists_none (t ∷ texts) = false

-- the texts joined, and one more
abbrev pub joined_more : ℕ → List (List ℕ) → List ℕ → List ℕ
joined_more c texts t = cond (lists_none texts) t (join_with_byte c texts ++ c ∷ t)

pub join-push : (c : ℕ) (texts : List (List ℕ)) (t : List ℕ) → join_with_byte c (texts ++ t ∷ []) ≡ joined_more c texts t
join-push c [] t = refl
join-push c (x ∷ []) t = refl
join-push c (x ∷ y ∷ texts) t = ap (λ (r : List ℕ). x ++ c ∷ r) (join-push c (y ∷ texts) t) ∙ sym (append_assoc x (c ∷ join_with_byte c (y ∷ texts)) (c ∷ t))

-- what is listed at a place
abbrev pub listed : List Bool → List (List ℕ) → ℕ → List ℕ → List (List ℕ)
listed set values i d = cond (get_or set i false) (value_text (get_or values i d) ∷ []) []

listed_behind : (b : Bool) (v : List ℕ) (front more : List (List ℕ)) → cond b (v ∷ (front ++ more)) (front ++ more) ≡ cond b (v ∷ front) front ++ more
listed_behind true v front more = refl
listed_behind false v front more = refl

more_of : (set : List Bool) (values : List (List ℕ)) (i : ℕ) (d : List ℕ) → i < length values → value_texts (take (suc i) set) values ≡ value_texts (take i set) values ++ listed set values i d
more_of [] values zero d l = refl
more_of [] values (suc i) d l = refl
more_of (b ∷ set) [] i d l = absurd (omega arith)
more_of (b ∷ set) (v ∷ values) zero d l = refl
more_of (b ∷ set) (v ∷ values) (suc i) d l = ap (λ (r : List (List ℕ)). cond b (value_text v ∷ r) r) (more_of set values i d (omega arith)) ∙ listed_behind b (value_text v) (value_texts (take i set) values) (listed set values i d)

pub value_texts-more : (set : List Bool) (values : List (List ℕ)) (i : ℕ) (d : List ℕ) → i < length values → value_texts (take (i + 1) set) values ≡ value_texts (take i set) values ++ listed set values i d
value_texts-more set values i d l = rw (add-one i) (more_of set values i d l)

pub value_texts-all : (set : List Bool) (values : List (List ℕ)) (i : ℕ) → length values ≤ i → value_texts (take i set) values ≡ value_texts set values
value_texts-all [] values zero l = refl
value_texts-all [] values (suc i) l = refl
value_texts-all (b ∷ set) [] zero l = refl
value_texts-all (b ∷ set) [] (suc i) l = refl
value_texts-all (b ∷ set) (v ∷ values) zero l = absurd (omega arith)
value_texts-all (b ∷ set) (v ∷ values) (suc i) l = ap (λ (r : List (List ℕ)). cond b (value_text v ∷ r) r) (value_texts-all set values i (omega arith))

-- steps of listing

more_listed : (texts : List (List ℕ)) (value : List ℕ) → joined_more bar texts (value_text value) ≡ join_with_byte bar texts ++ value_listed (lists_none texts) value
more_listed [] value = refl
more_listed (t ∷ texts) value = refl

some_listed : (texts : List (List ℕ)) (t : List ℕ) → false ≡ lists_none (texts ++ t ∷ [])
some_listed [] t = refl
some_listed (x ∷ texts) t = refl

pub listed_is : (set : List Bool) (values : List (List ℕ)) (i : ℕ) (value : List ℕ) → i < length values → value ≡ get_or values i value → get_or set i false ≡ true → value_texts (take (i + 1) set) values ≡ value_texts (take i set) values ++ value_text value ∷ []
listed_is set values i value l e has =
    value_texts-more set values i value l ∙ ap (λ (b : Bool). value_texts (take i set) values ++ cond b (value_text (get_or values i value) ∷ []) []) has ∙ ap (λ (v : List ℕ). value_texts (take i set) values ++ value_text v ∷ []) (sym e)

pub unlisted_is : (set : List Bool) (values : List (List ℕ)) (i : ℕ) → i < length values → get_or set i false ≡ false → value_texts (take (i + 1) set) values ≡ value_texts (take i set) values
unlisted_is set values i l has =
    value_texts-more set values i [] l ∙ ap (λ (b : Bool). value_texts (take i set) values ++ cond b (value_text (get_or values i []) ∷ []) []) has ∙ append-nil (value_texts (take i set) values)

-- one value more is listed
pub listed_bytes : (start before after : List ℕ) (is_first : Bool) (set : List Bool) (values : List (List ℕ)) (i : ℕ) (value : List ℕ) → i < length values → value ≡ get_or values i value → get_or set i false ≡ true → before ≡ start ++ join_with_byte bar (value_texts (take i set) values) → is_first ≡ lists_none (value_texts (take i set) values) → after ≡ before ++ value_listed is_first value → after ≡ start ++ join_with_byte bar (value_texts (take (i + 1) set) values)
listed_bytes start before after is_first set values i value l e has so_far first step =
    let texts : List (List ℕ) = value_texts (take i set) values in
    let bytes : join_with_byte bar (value_texts (take (i + 1) set) values) ≡ join_with_byte bar texts ++ value_listed (lists_none texts) value = ap (join_with_byte bar) (listed_is set values i value l e has) ∙ join-push bar texts (value_text value) ∙ more_listed texts value in
    step ∙ ap (λ (b : Bool). before ++ value_listed b value) first ∙ ap (λ (t : List ℕ). t ++ value_listed (lists_none texts) value) so_far
    ∙ append_assoc start (join_with_byte bar texts) (value_listed (lists_none texts) value) ∙ ap (λ (t : List ℕ). start ++ t) (sym bytes)

pub listed_first : (set : List Bool) (values : List (List ℕ)) (i : ℕ) (value : List ℕ) → i < length values → value ≡ get_or values i value → get_or set i false ≡ true → false ≡ lists_none (value_texts (take (i + 1) set) values)
listed_first set values i value l e has = some_listed (value_texts (take i set) values) (value_text value) ∙ ap lists_none (sym (listed_is set values i value l e has))

-- choices

choices_more : (categories : List Category) (choices : List Choice) (k : ℕ) (c : Category) (choice : Choice) → k < length categories → k < length choices → choices_texts (take (suc k) categories) choices ≡ choices_texts (take k categories) choices ++ choice_texts (get_or categories k c) (get_or choices k choice)
choices_more [] choices k c choice l m = absurd (omega arith)
choices_more (x ∷ categories) [] k c choice l m = absurd (omega arith)
choices_more (x ∷ categories) (y ∷ choices) zero c choice l m = append-nil (choice_texts x y)
choices_more (x ∷ categories) (y ∷ choices) (suc k) c choice l m = ap (λ (r : List (List ℕ)). choice_texts x y ++ r) (choices_more categories choices k c choice (omega arith) (omega arith)) ∙ sym (append_assoc (choice_texts x y) (choices_texts (take k categories) choices) (choice_texts (get_or categories k c) (get_or choices k choice)))

-- the items of one category more
pub choices_bytes : (start before after : List ℕ) (categories : List Category) (choices : List Choice) (k : ℕ) (c : Category) (choice : Choice) → k < length categories → k < length choices → c ≡ get_or categories k c → before ≡ start ++ spaced (choices_texts (take k categories) choices) → after ≡ before ++ spaced (choice_texts c (get_or choices k choice)) → after ≡ start ++ spaced (choices_texts (take (k + 1) categories) choices)
choices_bytes start before after categories choices k c choice l m same so_far step =
    let texts : List (List ℕ) = choices_texts (take k categories) choices in
    let last : List (List ℕ) = choice_texts c (get_or choices k choice) in
    let more : choices_texts (take (k + 1) categories) choices ≡ texts ++ last = rw (add-one k) (choices_more categories choices k c choice l m ∙ ap (λ (x : Category). texts ++ choice_texts x (get_or choices k choice)) (sym same)) in
    let bytes : spaced (choices_texts (take (k + 1) categories) choices) ≡ spaced texts ++ spaced last = ap spaced more ∙ flat_map-append after_space texts last in
    step ∙ ap (λ (t : List ℕ). t ++ spaced last) so_far ∙ append_assoc start (spaced texts) (spaced last) ∙ ap (λ (t : List ℕ). start ++ t) (sym bytes)
