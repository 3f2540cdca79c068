-- Printed items are read back.
use Rattle.std.proofs.Common.{◌≡◌, ℕ, ◌+◌, Bool, true, false, List, [], ◌∷◌, ◌++◌, cond, length, take, drop, sym, ◌∙◌, ap, refl, arith, append_assoc, Option, Some, None, Ok}
use Rattle.std.specs.Prelude.{not, ◌==◌, nat_le, map, replicate, position, slice_set, option_and_then, option_map}
use Rattle.std.specs.List.{list_all, list_any, join_with_byte}
use Rattle.std.specs.Str.{bytes_eq}
use Rattle.std.proofs.lemmas.Bool.{false≢true, and_parts, and_from, not-true}
use Rattle.std.proofs.lemmas.Bool.Decides.{nat_tests}
use Rattle.std.proofs.lemmas.List.{length-append, map-id}
use Rattle.std.proofs.Math.Seq.{set-append_seam, take-append_seam, drop-append-add}
use Rattle.cube_view.specs.Limits.{all_distinct, category_in_range, is_category_name, is_name_byte, is_value, is_value_byte, is_between, values_distinct}
use Rattle.cube_view.specs.declared.category.Category.{Category}
use Rattle.query_syntax.specs.Items.{item_at, item_parts, is_equals_sign, bare, in_quotes, is_well_quoted, are_well_quoted, has_even_quotes, category_number, value_number, no_values, with_values, set_of, is_full, has_item}
use Rattle.query_syntax.specs.Queries.{is_choice}
use Rattle.query_syntax.specs.Spelling.{needs_quotes, value_text, value_texts, item_text}
use Rattle.query_syntax.specs.Words.{space, bar, cut_pieces, is_some_text}
use Rattle.query_syntax.specs.declared.query.Choice.{Choice}
use Rattle.query_syntax.specs.declared.query.Choice.TheVariants.{Only}
use Rattle.query_syntax.proofs.Places.{position_at, position_of, values_at-seam, has_item-seam}
use Rattle.query_syntax.proofs.PrintedNumbers.{some_from_length}
use Rattle.query_syntax.proofs.PieceQuotes.{no_quote, filter_same, bare-in_quotes, well_quoted_plain, well_quoted_between}
use Rattle.query_syntax.proofs.WholeTexts.{stays_whole, all_weaker, is_plain, plain_whole, whole-append, pieces_joined, value_whole_in_item, value_whole_in_line, quotes_parity, is_word}

-- no value has a quote
abbrev pub are_unquoted : List (List ℕ) → Bool
are_unquoted values = list_all (list_all no_quote) values

value_unquoted : (v : List ℕ) → is_value v ≡ true → list_all no_quote v ≡ true
value_unquoted v h = all_weaker is_value_byte no_quote (λ b k. (and_parts (nat_le 32 b) _ ((and_parts _ (not (b == 127)) k).0)).1) v ((and_parts (is_between 1 64 (length v)) _ h).1)

pub values_unquoted : (c : Category) → category_in_range c ≡ true → are_unquoted c.values ≡ true
values_unquoted c h = all_weaker is_value (list_all no_quote) value_unquoted c.values ((and_parts _ (list_all is_value c.values) h).1)

-- one value

bare_by : (quotes : Bool) (v : List ℕ) → list_all no_quote v ≡ true → bare (cond quotes (in_quotes v) v) ≡ v
bare_by true v h = bare-in_quotes v ∙ filter_same no_quote v h
bare_by false v h = filter_same no_quote v h

bare_value : (v : List ℕ) → list_all no_quote v ≡ true → bare (value_text v) ≡ v
bare_value v h = bare_by (list_any needs_quotes v) v h

quoted_by : (quotes : Bool) (v : List ℕ) → list_all no_quote v ≡ true → is_well_quoted (cond quotes (in_quotes v) v) ≡ true
quoted_by true v h = well_quoted_between (in_quotes v) (ap in_quotes (sym (bare_by true v h)))
quoted_by false v h = well_quoted_plain v (sym (filter_same no_quote v h))

value_well_quoted : (v : List ℕ) → list_all no_quote v ≡ true → is_well_quoted (value_text v) ≡ true
value_well_quoted v h = quoted_by (list_any needs_quotes v) v h

-- the values of a set

texts_all : (p : List ℕ → Bool) → ((v : List ℕ) → list_all no_quote v ≡ true → p (value_text v) ≡ true) → (set : List Bool) (values : List (List ℕ)) → are_unquoted values ≡ true → list_all p (value_texts set values) ≡ true
texts_all p f [] values h = refl
texts_all p f (b ∷ set) [] h = refl
texts_all p f (true ∷ set) (v ∷ values) h = and_from (p (value_text v)) _ (f v ((and_parts (list_all no_quote v) _ h).0)) (texts_all p f set values ((and_parts (list_all no_quote v) _ h).1))
texts_all p f (false ∷ set) (v ∷ values) h = texts_all p f set values ((and_parts (list_all no_quote v) _ h).1)

texts_some : (set : List Bool) (values : List (List ℕ)) → list_any (λ b. b) set ≡ true → list_any (λ b. b) (drop (length values) set) ≡ false → (w : List ℕ) × (ws : List (List ℕ)) × (value_texts set values ≡ w ∷ ws)
texts_some [] values h k = absurd (false≢true h)
texts_some (b ∷ set) [] h k = absurd (false≢true (sym k ∙ h))
texts_some (true ∷ set) (v ∷ values) h k = (value_text v, value_texts set values, refl)
texts_some (false ∷ set) (v ∷ values) h k = texts_some set values h k

pub pieces_of_values : (set : List Bool) (values : List (List ℕ)) → are_unquoted values ≡ true → list_any (λ b. b) set ≡ true → list_any (λ b. b) (drop (length values) set) ≡ false → cut_pieces bar (join_with_byte bar (value_texts set values)) ≡ value_texts set values
pieces_of_values set values h some none =
    let listed : (w : List ℕ) × (ws : List (List ℕ)) × (value_texts set values ≡ w ∷ ws) = texts_some set values some none in
    let whole : list_all (stays_whole bar false) (listed.0 ∷ listed.1) ≡ true = ap (list_all (stays_whole bar false)) (sym listed.2) ∙ texts_all (stays_whole bar false) value_whole_in_item set values h in
    ap (λ (ts : List (List ℕ)). cut_pieces bar (join_with_byte bar ts)) listed.2 ∙ pieces_joined bar listed.0 listed.1 whole ∙ sym listed.2

abbrev falses : List Bool → List Bool
falses set = replicate (length set) false

falses_are : (set : List Bool) → list_any (λ b. b) set ≡ false → falses set ≡ set
falses_are [] h = refl
falses_are (true ∷ set) h = absurd (false≢true (sym h))
falses_are (false ∷ set) h = ap (λ (s : List Bool). false ∷ s) (falses_are set h)

number_of_value : (front : List (List ℕ)) (v : List ℕ) (back : List (List ℕ)) → all_distinct (front ++ v ∷ back) ≡ true → list_all no_quote v ≡ true → value_number (front ++ v ∷ back) (value_text v) ≡ Some (length front)
unfolding value_number
number_of_value front v back h k =
    ap (λ (t : List ℕ). position (λ value. bytes_eq value t) (front ++ v ∷ back)) (bare_value v k)
    ∙ position_of (λ (t : List ℕ). t) front v back (ap all_distinct (map-id (front ++ v ∷ back)) ∙ h)

pub length-push : {X : Type 0} (xs : List X) (x : X) → length (xs ++ x ∷ []) ≡ length xs + 1
length-push xs x = length-append xs (x ∷ [])

-- setting the members of a set in order rebuilds it
rebuilt : (values pre vs : List (List ℕ)) (front back : List Bool) → values ≡ pre ++ vs → length front ≡ length pre → all_distinct values ≡ true → are_unquoted vs ≡ true → list_any (λ b. b) (drop (length vs) back) ≡ false → with_values values (front ++ falses back) (value_texts back vs) ≡ Some (front ++ back)
rebuilt values pre vs front [] is size distinct h none = refl
rebuilt values pre [] front (b ∷ back) is size distinct h none = ap (λ (s : List Bool). Some (front ++ s)) (falses_are (b ∷ back) none)
rebuilt values pre (v ∷ vs) front (b ∷ back) is size distinct h none =
    let rest : with_values values ((front ++ b ∷ []) ++ falses back) (value_texts back vs) ≡ Some ((front ++ b ∷ []) ++ back) =
    rebuilt values (pre ++ v ∷ []) vs (front ++ b ∷ []) back (is ∙ sym (append_assoc pre (v ∷ []) vs)) (length-push front b ∙ ap (λ (n : ℕ). n + 1) size ∙ sym (length-push pre v)) distinct ((and_parts (list_all no_quote v) _ h).1) none in
    let onward : with_values values (front ++ b ∷ falses back) (value_texts back vs) ≡ Some (front ++ b ∷ back) =
    ap (λ (s : List Bool). with_values values s (value_texts back vs)) (sym (append_assoc front (b ∷ []) (falses back))) ∙ rest ∙ ap (λ (s : List Bool). Some s) (append_assoc front (b ∷ []) back) in
    (elim b as (λ b. with_values values (front ++ b ∷ falses back) (value_texts back vs) ≡ Some (front ++ b ∷ back) → with_values values (front ++ false ∷ falses back) (value_texts (b ∷ back) (v ∷ vs)) ≡ Some (front ++ b ∷ back)) [
      | false ↦ λ e. e
      | true ↦ λ e.
          let number : value_number values (value_text v) ≡ Some (length pre) = ap (λ (t : List (List ℕ)). value_number t (value_text v)) is ∙ number_of_value pre v vs (ap all_distinct (sym is) ∙ distinct) ((and_parts (list_all no_quote v) _ h).0) in
          let put : slice_set (front ++ false ∷ falses back) (length pre) true ≡ front ++ true ∷ falses back = ap (λ (n : ℕ). slice_set (front ++ false ∷ falses back) n true) (sym size) ∙ set-append_seam front false (falses back) true in
          ap (λ (o : Option ℕ). option_and_then (λ n. with_values values (slice_set (front ++ false ∷ falses back) n true) (value_texts back vs)) o) number
          ∙ ap (λ (s : List Bool). with_values values s (value_texts back vs)) put ∙ e
    ]) onward

pub set_reads : (set : List Bool) (values : List (List ℕ)) → (length set == 256) ≡ true → all_distinct values ≡ true → are_unquoted values ≡ true → list_any (λ b. b) set ≡ true → list_any (λ b. b) (drop (length values) set) ≡ false → set_of values (join_with_byte bar (value_texts set values)) ≡ Some set
unfolding set_of
set_reads set values size distinct h some none =
    let wide : length set ≡ 256 = grind (arith, nat_tests, size) in
    ap (with_values values no_values) (pieces_of_values set values h some none)
    ∙ ap (λ (n : ℕ). with_values values (replicate n false) (value_texts set values)) (sym wide)
    ∙ rebuilt values [] values [] set refl refl distinct h none

-- an item as a word

joined_whole : (ws : List (List ℕ)) → list_all (stays_whole space false) ws ≡ true → stays_whole space false (join_with_byte bar ws) ≡ true
joined_whole [] h = refl
joined_whole (w ∷ []) h = (and_parts (stays_whole space false w) _ h).0
joined_whole (w ∷ x ∷ ws) h =
    whole-append space false w (bar ∷ join_with_byte bar (x ∷ ws)) ((and_parts (stays_whole space false w) _ h).0)
    ∙ joined_whole (x ∷ ws) ((and_parts (stays_whole space false w) _ h).1)

name_byte_in_line : (b : ℕ) → is_name_byte b ≡ true → is_plain space b ≡ true
name_byte_in_line b h = grind (arith, nat_tests, h)

name_byte_no_equals : (b : ℕ) → is_name_byte b ≡ true → is_equals_sign b ≡ false
name_byte_no_equals b h = grind (arith, nat_tests, h)

name_of : (c : Category) → category_in_range c ≡ true → is_category_name c.name ≡ true
name_of c h = (and_parts (is_category_name c.name) _ ((and_parts _ (list_all is_value c.values) h).0)).0

name_bytes : (c : Category) → category_in_range c ≡ true → list_all is_name_byte c.name ≡ true
name_bytes c h = (and_parts (is_between 1 32 (length c.name)) _ (name_of c h)).1

name_whole : (c : Category) → category_in_range c ≡ true → stays_whole space false c.name ≡ true
name_whole c h = plain_whole space c.name (all_weaker is_name_byte (is_plain space) name_byte_in_line c.name (name_bytes c h))

pub name_is_word : (c : Category) → category_in_range c ≡ true → is_word c.name ≡ true
name_is_word c h =
    let range : is_between 1 32 (length c.name) ≡ true = (and_parts _ (list_all is_name_byte c.name) (name_of c h)).0 in
    and_from _ _ (some_from_length c.name (grind (arith, nat_tests, range))) (name_whole c h)

item_whole : (c : Category) (set : List Bool) → category_in_range c ≡ true → stays_whole space false (item_text c set) ≡ true
item_whole c set h =
    whole-append space false c.name (61 ∷ join_with_byte bar (value_texts set c.values)) (name_whole c h)
    ∙ joined_whole (value_texts set c.values) (texts_all (stays_whole space false) value_whole_in_line set c.values (values_unquoted c h))

some-append : (u : List ℕ) (b : ℕ) (v : List ℕ) → is_some_text (u ++ b ∷ v) ≡ true
some-append [] b v = refl
some-append (x ∷ u) b v = refl

pub item_is_word : (c : Category) (set : List Bool) → category_in_range c ≡ true → is_word (item_text c set) ≡ true
item_is_word c set h = and_from _ _ (some-append c.name 61 (join_with_byte bar (value_texts set c.values))) (item_whole c set h)

no_equals : (name : List ℕ) → list_all is_name_byte name ≡ true → list_any is_equals_sign name ≡ false
no_equals [] h = refl
no_equals (b ∷ name) h = rw (name_byte_no_equals b ((and_parts (is_name_byte b) _ h).0)) (no_equals name ((and_parts (is_name_byte b) _ h).1))

item_parts_are : (name text : List ℕ) → list_any is_equals_sign name ≡ false → item_parts (name ++ 61 ∷ text) ≡ Some (name, text)
unfolding item_parts
item_parts_are name text h =
    let item : List ℕ = name ++ 61 ∷ text in
    let after : drop (length name + 1) (name ++ 61 ∷ text) ≡ text = drop-append-add name (61 ∷ text) 1 in
    ap (option_map (λ i. (take i item, drop (i + 1) item))) (position_at is_equals_sign name 61 text h refl)
    ∙ ap (λ (t : List ℕ). Some (t, drop (length name + 1) item)) (take-append_seam name (61 ∷ text))
    ∙ ap (λ (t : List ℕ). Some (name, t)) after

-- the item of the category between the others, of which there was none before
pub item_reads : (pre : List Category) (c : Category) (cs : List Category) (front back : List (Option Choice)) (n : ℕ) (set : List Bool) → all_distinct (map (λ (x : Category). x.name) (pre ++ c ∷ cs)) ≡ true → values_distinct c ≡ true → category_in_range c ≡ true → length front ≡ length pre → is_choice (length c.values) (Only set) ≡ true → item_at (pre ++ c ∷ cs) (front ++ None ∷ back) n (item_text c set) ≡ Ok (length pre, Only set)
unfolding item_at has_even_quotes are_well_quoted category_number
item_reads pre c cs front back n set names distinct range size choice =
    let unquoted = values_unquoted c range in
    let text : List ℕ = join_with_byte bar (value_texts set c.values) in
    let none : list_any (λ b. b) (drop (length c.values) set) ≡ false = not-true _ ((and_parts _ (not (list_any (λ b. b) (drop (length c.values) set))) choice).1) in
    let three = (and_parts _ (not (list_any (λ b. b) (drop (length c.values) set))) choice).0 in
    let part : is_full (length c.values) set ≡ false = not-true _ ((and_parts _ (not (is_full (length c.values) set)) three).1) in
    let two = (and_parts _ (not (is_full (length c.values) set)) three).0 in
    let some : list_any (λ b. b) set ≡ true = (and_parts _ (list_any (λ b. b) set) two).1 in
    let wide : (length set == 256) ≡ true = (and_parts (length set == 256) _ two).0 in
    let even : has_even_quotes (item_text c set) ≡ true = ap (λ (m : ℕ). m == 0) (quotes_parity space false (item_text c set) (item_whole c set range)) in
    let parts : item_parts (item_text c set) ≡ Some (c.name, text) = item_parts_are c.name text (no_equals c.name (name_bytes c range)) in
    let well : are_well_quoted text ≡ true = ap (list_all is_well_quoted) (pieces_of_values set c.values unquoted some none) ∙ texts_all is_well_quoted value_well_quoted set c.values unquoted in
    let number : category_number (pre ++ c ∷ cs) c.name ≡ Some (length pre) = position_of (λ (x : Category). x.name) pre c cs names in
    let fresh : has_item (front ++ None ∷ back) (length pre) ≡ false = ap (has_item (front ++ None ∷ back)) (sym size) ∙ has_item-seam front back in
    let is : set_of c.values text ≡ Some set = set_reads set c.values wide distinct unquoted some none in
    rw (even, parts, well, number, fresh, values_at-seam pre c cs, is, part) refl
