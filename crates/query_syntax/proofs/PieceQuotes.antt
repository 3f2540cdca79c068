-- Quotes of pieces.
use Rattle.std.proofs.Common.{◌≡◌, ◌≢◌, ◌⊎◌, inl, inr, ℕ, Bool, true, false, List, [], ◌∷◌, ◌++◌, cond, sym, ◌∙◌, ap, refl}
use Rattle.std.specs.Prelude.{not, filter, ◌||◌, ◌&&◌}
use Rattle.std.specs.List.{list_all}
use Rattle.std.specs.Str.{bytes_eq}
use Rattle.std.proofs.Math.Bool.{or-true}
use Rattle.std.proofs.lemmas.Bool.{false≢true, and_parts, and_from}
use Rattle.std.proofs.lemmas.List.{append_cancel_right}
use Rattle.std.proofs.lemmas.Slice.Eq.{bytes_eq-Decides}
use Rattle.texts.specs.LineFeeds.{onto_first}
use Rattle.cube_view.proofs.FinerWalks.{iff_same}
use Rattle.query_syntax.specs.Words.{quote, bar, cut_pieces, pieces_from, cuts, quoted_after}
use Rattle.query_syntax.specs.Items.{is_quote, bare, in_quotes, is_well_quoted, are_well_quoted}

abbrev pub no_quote : ℕ → Bool
no_quote b = not (is_quote b)

-- the text is what a piece is without two quotes around it
abbrev pub Unquotes : List ℕ → List ℕ → Type 0
Unquotes piece text = (piece ≡ in_quotes text) ⊎ ((text ≡ piece) × ((t : List ℕ) → piece ≢ in_quotes t))

pub filter_same : {X : Type 0} (p : X → Bool) (xs : List X) → list_all p xs ≡ true → filter p xs ≡ xs
filter_same p [] h = refl
filter_same p (x ∷ xs) h =
    (elim (p x) as (λ v. v && list_all p xs ≡ true → cond v (x ∷ filter p xs) (filter p xs) ≡ x ∷ xs) [
      | true ↦ λ e. ap (λ ys. x ∷ ys) (filter_same p xs e)
      | false ↦ λ e. absurd (false≢true e)
    ]) h

pub filter_passes : (p : ℕ → Bool) (xs : List ℕ) → list_all p (filter p xs) ≡ true
filter_passes p [] = refl
filter_passes p (x ∷ xs) =
    (elim (p x) as (λ v. v ≡ p x → list_all p (cond v (x ∷ filter p xs) (filter p xs)) ≡ true) [
      | true ↦ λ e. ap (λ (v : Bool). v && list_all p (filter p xs)) (sym e) ∙ filter_passes p xs
      | false ↦ λ e. filter_passes p xs
    ]) refl

bare-push : (xs : List ℕ) → bare (xs ++ quote ∷ []) ≡ bare xs
bare-push [] = refl
bare-push (x ∷ xs) = ap (λ (ys : List ℕ). cond (no_quote x) (x ∷ ys) ys) (bare-push xs)

pub bare-in_quotes : (xs : List ℕ) → bare (in_quotes xs) ≡ bare xs
bare-in_quotes xs = bare-push xs

-- a text without quotes is what is left of it
pub none_from_bare : (xs : List ℕ) → xs ≡ bare xs → list_all no_quote xs ≡ true
none_from_bare xs e = ap (list_all no_quote) e ∙ filter_passes no_quote xs

or_cases : (a b : Bool) → a || b ≡ true → (a ≡ true) ⊎ (b ≡ true)
or_cases true b h = inl refl
or_cases false b h = inr h

-- where the first of two tests holds, one of both does
pub or_left : (a b : Bool) → a ≡ true → a || b ≡ true
or_left a b h = rw h refl

pub well_quoted_cases : (piece : List ℕ) → is_well_quoted piece ≡ true → (piece ≡ bare piece) ⊎ (piece ≡ in_quotes (bare piece))
unfolding is_well_quoted
well_quoted_cases piece h =
    elim (or_cases (bytes_eq piece (bare piece)) (bytes_eq piece (in_quotes (bare piece))) h) [
      | inl e ↦ inl ((bytes_eq-Decides piece (bare piece)).0 e)
      | inr e ↦ inr ((bytes_eq-Decides piece (in_quotes (bare piece))).0 e)
    ]

pub well_quoted_plain : (piece : List ℕ) → piece ≡ bare piece → is_well_quoted piece ≡ true
unfolding is_well_quoted
well_quoted_plain piece e = or_left (bytes_eq piece (bare piece)) _ ((bytes_eq-Decides piece (bare piece)).1 e)

pub well_quoted_between : (piece : List ℕ) → piece ≡ in_quotes (bare piece) → is_well_quoted piece ≡ true
unfolding is_well_quoted
well_quoted_between piece e = ap (λ b. bytes_eq piece (bare piece) || b) ((bytes_eq-Decides piece (in_quotes (bare piece))).1 e) ∙ or-true (bytes_eq piece (bare piece))

-- a text in quotes has a quote
quoted_not_bare : (t piece : List ℕ) → piece ≡ in_quotes t → piece ≡ bare piece → ⊥
quoted_not_bare t piece q e = false≢true (sym (ap (list_all no_quote) q) ∙ none_from_bare piece e)

-- the text of a well quoted piece
abbrev tail : List ℕ → List ℕ
tail [] = []
tail (x ∷ xs) = xs

pub text_is_bare : (piece text : List ℕ) → Unquotes piece text → is_well_quoted piece ≡ true → text ≡ bare piece
text_is_bare piece text u h =
    elim u [
      | inl q ↦ elim (well_quoted_cases piece h) [
        | inl e ↦ absurd (quoted_not_bare text piece q e)
        | inr e ↦ append_cancel_right text (bare piece) (quote ∷ []) (ap tail (sym q ∙ e))
      ]
      | inr n ↦ elim (well_quoted_cases piece h) [ inl e ↦ n.0 ∙ e | inr e ↦ absurd (n.1 (bare piece) e) ]
    ]

pub quotes_test : (piece text : List ℕ) → Unquotes piece text → list_all no_quote text ≡ is_well_quoted piece
quotes_test piece text u =
    iff_same (list_all no_quote text) (is_well_quoted piece)
    (λ h. elim u [
      | inl q ↦ well_quoted_between piece (q ∙ ap in_quotes (sym (filter_same no_quote text h) ∙ sym (ap bare q ∙ bare-in_quotes text)))
      | inr n ↦ well_quoted_plain piece (let same : bare piece ≡ piece = filter_same no_quote piece (ap (list_all no_quote) (sym n.0) ∙ h) in sym same)
    ])
    (λ h. none_from_bare text (let e : text ≡ bare piece = text_is_bare piece text u h in e ∙ sym (filter_same no_quote (bare piece) (filter_passes no_quote piece)) ∙ ap bare (sym e)))

-- a text without quotes is cut into pieces without quotes

no_quotes_before_first : (b : ℕ) (pieces : List (List ℕ)) → no_quote b ≡ true → list_all (list_all no_quote) pieces ≡ true → list_all (list_all no_quote) (onto_first b pieces) ≡ true
no_quotes_before_first b [] h k = and_from (no_quote b && true) true (and_from (no_quote b) true h refl) refl
no_quotes_before_first b (piece ∷ pieces) h k =
    let parts = and_parts (list_all no_quote piece) (list_all (list_all no_quote) pieces) k in
    and_from (no_quote b && list_all no_quote piece) (list_all (list_all no_quote) pieces) (and_from (no_quote b) (list_all no_quote piece) h parts.0) parts.1

no_quotes_in_pieces : (mark : ℕ) (quoted : Bool) (text : List ℕ) → list_all no_quote text ≡ true → list_all (list_all no_quote) (pieces_from mark quoted text) ≡ true
no_quotes_in_pieces mark quoted [] h = refl
no_quotes_in_pieces mark quoted (b ∷ bytes) h =
    let parts = and_parts (no_quote b) (list_all no_quote bytes) h in
    elim (cuts mark quoted b) as (λ v. list_all (list_all no_quote) (cond v ([] ∷ pieces_from mark false bytes) (onto_first b (pieces_from mark (quoted_after quoted b) bytes))) ≡ true) [
      | true ↦ no_quotes_in_pieces mark false bytes parts.1
      | false ↦ no_quotes_before_first b (pieces_from mark (quoted_after quoted b) bytes) parts.0 (no_quotes_in_pieces mark (quoted_after quoted b) bytes parts.1)
    ]

well_quoted_without : (piece : List ℕ) → list_all no_quote piece ≡ true → is_well_quoted piece ≡ true
well_quoted_without piece h = well_quoted_plain piece (sym (filter_same no_quote piece h))

well_quoted_all : (pieces : List (List ℕ)) → list_all (list_all no_quote) pieces ≡ true → list_all is_well_quoted pieces ≡ true
well_quoted_all [] h = refl
well_quoted_all (piece ∷ pieces) h =
    let parts = and_parts (list_all no_quote piece) (list_all (list_all no_quote) pieces) h in
    and_from (is_well_quoted piece) (list_all is_well_quoted pieces) (well_quoted_without piece parts.0) (well_quoted_all pieces parts.1)

-- so each of its pieces is well quoted
pub unquoted_is_well_quoted : (text : List ℕ) → list_all no_quote text ≡ true → are_well_quoted text ≡ true
unfolding are_well_quoted cut_pieces
unquoted_is_well_quoted text h = well_quoted_all (pieces_from bar false text) (no_quotes_in_pieces bar false text h)
