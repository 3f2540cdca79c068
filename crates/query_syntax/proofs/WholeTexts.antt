-- Texts that a mark doesn't cut.
use Rattle.std.proofs.Common.{◌≡◌, ℕ, ◌+◌, ◌%◌, Bool, true, false, List, [], ◌∷◌, ◌++◌, cond, sym, ◌∙◌, ap, refl, arith, append-nil}
use Rattle.std.specs.Prelude.{not, ◌&&◌, ◌||◌, ◌==◌, filter, count_by}
use Rattle.std.specs.List.{list_all, list_any, flat_map, join_with_byte}
use Rattle.std.proofs.Math.Bool.{and-false}
use Rattle.std.proofs.lemmas.Bool.{false≢true, and_parts, and_from, not-true}
use Rattle.std.proofs.lemmas.List.Sums.{sum_by-cons}
use Rattle.texts.specs.LineFeeds.{onto_first}
use Rattle.query_syntax.specs.Items.{is_quote, in_quotes}
use Rattle.query_syntax.specs.Spelling.{needs_quotes, value_text, spaced}
use Rattle.query_syntax.specs.Words.{quote, space, bar, cuts, quoted_after, cut_pieces, pieces_from, words, is_some_text}
use Rattle.query_syntax.proofs.BytePieces.{pieces_from-uncut, pieces_from-cut, is_cut}
use Rattle.query_syntax.proofs.PieceQuotes.{no_quote, filter_same}

-- no byte is a mark that cuts, where the first byte is in quotes or not, and at the end nothing is in quotes
abbrev pub stays_whole : ℕ → Bool → List ℕ → Bool
stays_whole mark quoted [] = not quoted
stays_whole mark quoted (b ∷ bytes) = not (cuts mark quoted b) && stays_whole mark (quoted_after quoted b) bytes

pub or_false_left : (a b : Bool) → a || b ≡ false → a ≡ false
or_false_left true b h = h
or_false_left false b h = refl

pub or_false_right : (a b : Bool) → a || b ≡ false → b ≡ false
or_false_right true b h = absurd (false≢true (sym h))
or_false_right false b h = h

pub all_weaker : {X : Type 0} (p q : X → Bool) → ((x : X) → p x ≡ true → q x ≡ true) → (xs : List X) → list_all p xs ≡ true → list_all q xs ≡ true
all_weaker p q f [] h = refl
all_weaker p q f (x ∷ xs) h = and_from (q x) _ (f x ((and_parts (p x) _ h).0)) (all_weaker p q f xs ((and_parts (p x) _ h).1))

-- pieces

pub piece_alone : (mark : ℕ) (quoted : Bool) (w : List ℕ) → stays_whole mark quoted w ≡ true → pieces_from mark quoted w ≡ w ∷ []
piece_alone mark quoted [] h = refl
piece_alone mark quoted (b ∷ w) h =
    pieces_from-uncut mark quoted b w (not-true _ ((and_parts (not (cuts mark quoted b)) _ h).0))
    ∙ ap (onto_first b) (piece_alone mark (quoted_after quoted b) w ((and_parts (not (cuts mark quoted b)) _ h).1))

pub piece_cut : (mark : ℕ) (quoted : Bool) (w rest : List ℕ) → stays_whole mark quoted w ≡ true → pieces_from mark quoted (w ++ mark ∷ rest) ≡ w ∷ pieces_from mark false rest
piece_cut mark quoted [] rest h = pieces_from-cut mark quoted mark rest (is_cut mark mark quoted refl (not-true quoted h))
piece_cut mark quoted (b ∷ w) rest h =
    pieces_from-uncut mark quoted b (w ++ mark ∷ rest) (not-true _ ((and_parts (not (cuts mark quoted b)) _ h).0))
    ∙ ap (onto_first b) (piece_cut mark (quoted_after quoted b) w rest ((and_parts (not (cuts mark quoted b)) _ h).1))

abbrev pub after_mark : ℕ → List ℕ → List ℕ
after_mark mark w = mark ∷ w

pieces_listed : (mark : ℕ) (w : List ℕ) (ws : List (List ℕ)) → stays_whole mark false w ≡ true → list_all (stays_whole mark false) ws ≡ true → pieces_from mark false (w ++ flat_map (after_mark mark) ws) ≡ w ∷ ws
pieces_listed mark w [] h k = ap (pieces_from mark false) (append-nil w) ∙ piece_alone mark false w h
pieces_listed mark w (x ∷ ws) h k =
    piece_cut mark false w (x ++ flat_map (after_mark mark) ws) h
    ∙ ap (λ (ps : List (List ℕ)). w ∷ ps) (pieces_listed mark x ws ((and_parts (stays_whole mark false x) _ k).0) ((and_parts (stays_whole mark false x) _ k).1))

join_is : (mark : ℕ) (w : List ℕ) (ws : List (List ℕ)) → join_with_byte mark (w ∷ ws) ≡ w ++ flat_map (after_mark mark) ws
join_is mark w [] = sym (append-nil w)
join_is mark w (x ∷ ws) = ap (λ (r : List ℕ). w ++ mark ∷ r) (join_is mark x ws)

-- whole texts with marks between them are the pieces
pub pieces_joined : (mark : ℕ) (w : List ℕ) (ws : List (List ℕ)) → list_all (stays_whole mark false) (w ∷ ws) ≡ true → cut_pieces mark (join_with_byte mark (w ∷ ws)) ≡ w ∷ ws
unfolding cut_pieces
pieces_joined mark w ws h = ap (pieces_from mark false) (join_is mark w ws) ∙ pieces_listed mark w ws ((and_parts (stays_whole mark false w) _ h).0) ((and_parts (stays_whole mark false w) _ h).1)

-- what stays whole

pub whole-append : (mark : ℕ) (quoted : Bool) (u v : List ℕ) → stays_whole mark quoted u ≡ true → stays_whole mark quoted (u ++ v) ≡ stays_whole mark false v
whole-append mark quoted [] v h = ap (λ (q : Bool). stays_whole mark q v) (not-true quoted h)
whole-append mark quoted (b ∷ u) v h =
    ap (λ (t : Bool). t && stays_whole mark (quoted_after quoted b) (u ++ v)) ((and_parts (not (cuts mark quoted b)) _ h).0)
    ∙ whole-append mark (quoted_after quoted b) u v ((and_parts (not (cuts mark quoted b)) _ h).1)

-- neither the mark nor a quote
abbrev pub is_plain : ℕ → ℕ → Bool
is_plain mark b = not (b == mark) && not (b == quote)

pub plain_whole : (mark : ℕ) (w : List ℕ) → list_all (is_plain mark) w ≡ true → stays_whole mark false w ≡ true
plain_whole mark [] h = refl
plain_whole mark (b ∷ w) h =
    let plain : is_plain mark b ≡ true = (and_parts (is_plain mark b) _ h).0 in
    let other : (b == mark) ≡ false = not-true _ ((and_parts _ (not (b == quote)) plain).0) in
    let unquoted : (b == quote) ≡ false = not-true _ ((and_parts (not (b == mark)) _ plain).1) in
    rw (other, unquoted) (plain_whole mark w ((and_parts (is_plain mark b) _ h).1))

quoted_whole : (mark : ℕ) (w : List ℕ) → (quote == mark) ≡ false → list_all no_quote w ≡ true → stays_whole mark true (w ++ quote ∷ []) ≡ true
quoted_whole mark [] e h = rw e refl
quoted_whole mark (b ∷ w) e h =
    let unquoted : (b == quote) ≡ false = not-true _ ((and_parts (no_quote b) _ h).0) in
    rw (and-false (b == mark), unquoted) (quoted_whole mark w e ((and_parts (no_quote b) _ h).1))

bare_plain : (mark : ℕ) → ((b : ℕ) → needs_quotes b ≡ false → (b == mark) ≡ false) → (v : List ℕ) → list_any needs_quotes v ≡ false → list_all no_quote v ≡ true → list_all (is_plain mark) v ≡ true
bare_plain mark f [] h k = refl
bare_plain mark f (b ∷ v) h k =
    let other : (b == mark) ≡ false = f b (or_false_left (needs_quotes b) _ h) in
    let unquoted : (b == quote) ≡ false = not-true _ ((and_parts (no_quote b) _ k).0) in
    rw (other, unquoted) (bare_plain mark f v (or_false_right (needs_quotes b) _ h) ((and_parts (no_quote b) _ k).1))

value_by : (mark : ℕ) (quotes : Bool) (v : List ℕ) → (quote == mark) ≡ false → ((b : ℕ) → needs_quotes b ≡ false → (b == mark) ≡ false) → list_all no_quote v ≡ true → quotes ≡ list_any needs_quotes v → stays_whole mark false (cond quotes (in_quotes v) v) ≡ true
value_by mark true v e f h is = rw e (quoted_whole mark v e h)
value_by mark false v e f h is = plain_whole mark v (bare_plain mark f v (sym is) h)

pub value_whole_in_item : (v : List ℕ) → list_all no_quote v ≡ true → stays_whole bar false (value_text v) ≡ true
value_whole_in_item v h = value_by bar (list_any needs_quotes v) v refl (λ b k. or_false_right (b == space) (b == bar) k) h refl

pub value_whole_in_line : (v : List ℕ) → list_all no_quote v ≡ true → stays_whole space false (value_text v) ≡ true
value_whole_in_line v h = value_by space (list_any needs_quotes v) v refl (λ b k. or_false_left (b == space) (b == bar) k) h refl

-- quotes of a whole text

abbrev one_open : Bool → ℕ
one_open quoted = cond quoted 1 0

parity_step : (is quoted : Bool) (n : ℕ) → n % 2 ≡ one_open (cond is (not quoted) quoted) → (cond is 1 0 + n) % 2 ≡ one_open quoted
parity_step true true n h = omega arith
parity_step true false n h = omega arith
parity_step false true n h = omega arith
parity_step false false n h = omega arith

pub quotes_parity : (mark : ℕ) (quoted : Bool) (w : List ℕ) → stays_whole mark quoted w ≡ true → count_by is_quote w % 2 ≡ one_open quoted
quotes_parity mark quoted [] h = rw (not-true quoted h) refl
quotes_parity mark quoted (b ∷ w) h =
    ap (λ (n : ℕ). n % 2) (sum_by-cons (λ x. cond (is_quote x) 1 0) b w)
    ∙ parity_step (is_quote b) quoted (count_by is_quote w) (quotes_parity mark (quoted_after quoted b) w ((and_parts (not (cuts mark quoted b)) _ h).1))

-- words

-- a word of a line
abbrev pub is_word : List ℕ → Bool
is_word w = is_some_text w && stays_whole space false w

pub words_listed : (w : List ℕ) (ws : List (List ℕ)) → list_all is_word (w ∷ ws) ≡ true → words (w ++ spaced ws) ≡ w ∷ ws
unfolding words cut_pieces
words_listed w ws h =
    let whole : list_all (stays_whole space false) (w ∷ ws) ≡ true = all_weaker is_word (stays_whole space false) (λ x k. (and_parts (is_some_text x) _ k).1) (w ∷ ws) h in
    let some : list_all is_some_text (w ∷ ws) ≡ true = all_weaker is_word is_some_text (λ x k. (and_parts (is_some_text x) _ k).0) (w ∷ ws) h in
    ap (filter is_some_text) (pieces_listed space w ws ((and_parts (stays_whole space false w) _ whole).0) ((and_parts (stays_whole space false w) _ whole).1)) ∙ filter_same is_some_text (w ∷ ws) some
