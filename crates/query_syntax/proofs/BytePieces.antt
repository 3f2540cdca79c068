-- Pieces and words of bytes.
use Rattle.std.proofs.Common.{◌≡◌, ◌⊎◌, inl, inr, ℕ, suc, ◌+◌, ◌<◌, ◌≢◌, Bool, true, false, List, [], ◌∷◌, ◌++◌, length, take, drop, get_or, cond, eqb, sym, ◌∙◌, ap, refl, arith, add-one, append_assoc, append-nil}
use Rattle.std.proofs.Math.Seq.{drop-cons}
use Rattle.std.specs.Prelude.{not, filter, None}
use Rattle.std.proofs.lemmas.List.{take_more}
use Rattle.std.proofs.Math.Seq.{take-length, drop-length}
use Rattle.std.proofs.lemmas.Bool.{false≢true}
use Rattle.std.proofs.lemmas.Bool.Decides.{nat_tests}
use Rattle.texts.specs.LineFeeds.{onto_first}
use Rattle.query_syntax.specs.Tiles.{tile_of_pieces}
use Rattle.query_syntax.specs.Words.{cut_pieces, pieces_from, cuts, quoted_after, words, is_some_text, space}

-- the bytes go in front of the first piece
abbrev pub before_first_piece : List ℕ → List (List ℕ) → List (List ℕ)
before_first_piece front [] = front ∷ []
before_first_piece front (piece ∷ rest) = (front ++ piece) ∷ rest

onto_first-before : (front : List ℕ) (b : ℕ) (ps : List (List ℕ)) → before_first_piece front (onto_first b ps) ≡ before_first_piece (front ++ b ∷ []) ps
onto_first-before front b [] = refl
onto_first-before front b (p ∷ ps) = ap (λ (xs : List ℕ). xs ∷ ps) (sym (append_assoc front (b ∷ []) p))

-- the pieces of the whole, where the loop is at a byte
abbrev pub pieces_at : ℕ → Bool → List ℕ → ℕ → List (List ℕ)
pieces_at mark quoted bytes i = before_first_piece (take i bytes) (pieces_from mark quoted (drop i bytes))

pub pieces_from-uncut : (mark : ℕ) (quoted : Bool) (b : ℕ) (rest : List ℕ) → cuts mark quoted b ≡ false → pieces_from mark quoted (b ∷ rest) ≡ onto_first b (pieces_from mark (quoted_after quoted b) rest)
pieces_from-uncut mark quoted b rest h = ap (λ (v : Bool). cond v ([] ∷ pieces_from mark false rest) (onto_first b (pieces_from mark (quoted_after quoted b) rest))) h

pub pieces_from-cut : (mark : ℕ) (quoted : Bool) (b : ℕ) (rest : List ℕ) → cuts mark quoted b ≡ true → pieces_from mark quoted (b ∷ rest) ≡ [] ∷ pieces_from mark false rest
pieces_from-cut mark quoted b rest h = ap (λ (v : Bool). cond v ([] ∷ pieces_from mark false rest) (onto_first b (pieces_from mark (quoted_after quoted b) rest))) h

pub pieces_at-step : (mark : ℕ) (quoted : Bool) (bytes : List ℕ) (i : ℕ) → i < length bytes → cuts mark quoted (get_or bytes i 0) ≡ false → pieces_at mark quoted bytes i ≡ pieces_at mark (quoted_after quoted (get_or bytes i 0)) bytes (i + 1)
pieces_at-step mark quoted bytes i h uncut =
    let b : ℕ = get_or bytes i 0 in
    let after : Bool = quoted_after quoted b in
    ap (λ (xs : List ℕ). before_first_piece (take i bytes) (pieces_from mark quoted xs)) (drop-cons bytes i 0 h)
    ∙ ap (before_first_piece (take i bytes)) (pieces_from-uncut mark quoted b (drop (suc i) bytes) uncut)
    ∙ onto_first-before (take i bytes) b (pieces_from mark after (drop (suc i) bytes))
    ∙ ap (λ (n : ℕ). before_first_piece (take i bytes ++ b ∷ []) (pieces_from mark after (drop n bytes))) (sym (add-one i))
    ∙ ap (λ (xs : List ℕ). before_first_piece xs (pieces_from mark after (drop (i + 1) bytes))) (sym (take_more bytes i 0 h))

pub pieces_at-cut : (mark : ℕ) (quoted : Bool) (bytes : List ℕ) (i : ℕ) → i < length bytes → cuts mark quoted (get_or bytes i 0) ≡ true → pieces_at mark quoted bytes i ≡ take i bytes ∷ cut_pieces mark (drop (i + 1) bytes)
unfolding cut_pieces
pieces_at-cut mark quoted bytes i h cut =
    ap (λ (xs : List ℕ). before_first_piece (take i bytes) (pieces_from mark quoted xs)) (drop-cons bytes i 0 h)
    ∙ ap (before_first_piece (take i bytes)) (pieces_from-cut mark quoted (get_or bytes i 0) (drop (suc i) bytes) cut)
    ∙ ap (λ (xs : List ℕ). xs ∷ pieces_from mark false (drop (suc i) bytes)) (append-nil (take i bytes))
    ∙ ap (λ (n : ℕ). take i bytes ∷ pieces_from mark false (drop n bytes)) (sym (add-one i))

pub pieces_at-end : (mark : ℕ) (quoted : Bool) (bytes : List ℕ) (i : ℕ) → i ≡ length bytes → pieces_at mark quoted bytes i ≡ bytes ∷ []
pieces_at-end mark quoted bytes i h =
    rw (h, take-length, drop-length) (ap (λ (xs : List ℕ). xs ∷ []) (append-nil bytes))

before_none : (ps : List (List ℕ)) → ps ≢ [] → before_first_piece [] ps ≡ ps
before_none [] h = absurd (h refl)
before_none (p ∷ ps) h = refl

onto_first-some : (b : ℕ) (ps : List (List ℕ)) → onto_first b ps ≢ []
onto_first-some b [] = λ e. cc
onto_first-some b (p ∷ ps) = λ e. cc

-- there is a piece
pub pieces_from-some : (mark : ℕ) (quoted : Bool) (bytes : List ℕ) → pieces_from mark quoted bytes ≢ []
pieces_from-some mark quoted [] = λ e. cc
pieces_from-some mark quoted (b ∷ bytes) =
    elim (cuts mark quoted b) as (λ v. cond v ([] ∷ pieces_from mark false bytes) (onto_first b (pieces_from mark (quoted_after quoted b) bytes)) ≢ []) [
      | true ↦ λ e. cc
      | false ↦ onto_first-some b (pieces_from mark (quoted_after quoted b) bytes)
    ]

pub pieces_at-start : (mark : ℕ) (quoted : Bool) (bytes : List ℕ) → pieces_at mark quoted bytes 0 ≡ pieces_from mark quoted bytes
pieces_at-start mark quoted [] = refl
pieces_at-start mark quoted (b ∷ bytes) = before_none (pieces_from mark quoted (b ∷ bytes)) (pieces_from-some mark quoted (b ∷ bytes))

-- words

is_some_text-from_length : (p : List ℕ) (empty : Bool) → empty ≡ eqb (length p) 0 → empty ≡ false → is_some_text p ≡ true
is_some_text-from_length [] empty e h = sym h ∙ e
is_some_text-from_length (b ∷ p) empty e h = refl

is_empty-from_length : (p : List ℕ) (empty : Bool) → empty ≡ eqb (length p) 0 → empty ≡ true → is_some_text p ≡ false
is_empty-from_length [] empty e h = refl
is_empty-from_length (b ∷ p) empty e h = absurd (grind (arith, nat_tests, e, h))

pub words-more : (line p rest : List ℕ) (empty : Bool) → cut_pieces space line ≡ p ∷ cut_pieces space rest → empty ≡ eqb (length p) 0 → empty ≡ false → words line ≡ p ∷ words rest
unfolding words
words-more line p rest empty e h some =
    ap (filter is_some_text) e ∙ ap (λ (v : Bool). cond v (p ∷ filter is_some_text (cut_pieces space rest)) (filter is_some_text (cut_pieces space rest))) (is_some_text-from_length p empty h some)

pub words-skip : (line p rest : List ℕ) (empty : Bool) → cut_pieces space line ≡ p ∷ cut_pieces space rest → empty ≡ eqb (length p) 0 → empty ≡ true → words line ≡ words rest
unfolding words
words-skip line p rest empty e h none =
    ap (filter is_some_text) e ∙ ap (λ (v : Bool). cond v (p ∷ filter is_some_text (cut_pieces space rest)) (filter is_some_text (cut_pieces space rest))) (is_empty-from_length p empty h none)

pub words-last : (line p : List ℕ) → cut_pieces space line ≡ p ∷ [] → words line ≡ filter is_some_text (p ∷ [])
unfolding words
words-last line p e = ap (filter is_some_text) e

-- what the tests of a byte say
pub is_cut : (mark b : ℕ) (quoted : Bool) → b ≡ mark → quoted ≡ false → cuts mark quoted b ≡ true
is_cut mark b quoted e h = rw h (grind (arith, nat_tests, e))

pub is_uncut : (mark b : ℕ) (quoted : Bool) → ((b ≡ mark) × (quoted ≡ true)) ⊎ (b ≢ mark) → cuts mark quoted b ≡ false
is_uncut mark b true h = grind (arith, nat_tests)
is_uncut mark b false h = elim h [ inl e ↦ absurd (false≢true e.1) | inr n ↦ grind (arith, nat_tests, n) ]

pub toggles_at : (b : ℕ) (quoted : Bool) → b ≡ 34 → quoted_after quoted b ≡ not quoted
toggles_at b quoted e = rw e refl

pub keeps_at : (b : ℕ) (quoted : Bool) → b ≢ 34 → quoted_after quoted b ≡ quoted
keeps_at b quoted n = grind (arith, nat_tests, n)

pub pieces-some : (mark : ℕ) (bytes : List ℕ) → cut_pieces mark bytes ≢ []
unfolding cut_pieces
pieces-some mark bytes = pieces_from-some mark false bytes

-- more than three pieces write no tile
pub too_many_pieces : (depth : ℕ) (z x y : List ℕ) (ps : List (List ℕ)) → ps ≢ [] → tile_of_pieces depth (z ∷ x ∷ y ∷ ps) ≡ None
too_many_pieces depth z x y [] h = absurd (h refl)
too_many_pieces depth z x y (p ∷ ps) h = refl
