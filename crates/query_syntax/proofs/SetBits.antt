-- Sets of values by their bits.
use Rattle.std.proofs.Common.{◌≡◌, ℕ, zero, suc, ◌+◌, ◌-◌, ◌*◌, ◌/◌, ◌%◌, ◌^◌, ◌<◌, ◌≤◌, Bool, true, false, List, [], ◌∷◌, length, get_or, set, eqb, sym, ◌∙◌, ap, refl, arith, ⊎_elim}
use Rattle.std.specs.Int.{bit_at, w64}
use Rattle.std.specs.Int.RustNames.{bit_or}
use Rattle.std.proofs.lemmas.Bool.{cases_eq, cases_lt}
use Rattle.std.proofs.lemmas.List.{length-append, length-set, get_or_past, get_or_append_left, get_or-append_right, get_or-set_same, get_or-set_other, ext_get_or}
use Rattle.std.proofs.lemmas.List.Elements.{All-get_or, All-set}
use Rattle.std.proofs.lemmas.Nat.{or_lt, mod_below, pow_pos}
use Rattle.std.proofs.lemmas.Nat.Bits.{bit_at_above, bit_at_lowest, bit_at-suc, bit_at-zero, bit_at_set_same, bit_at_set_other}
use Rattle.query_syntax.specs.SetBits.{bits_of, members_in_words, AreWords}

-- the value's bit is 1: bit v % 64 of word v / 64
abbrev pub has_bit : List ℕ → ℕ → Bool
has_bit words v = eqb (bit_at (get_or words (v / 64) 0) (v % 64)) 1

length-bits_of : (n w : ℕ) → length (bits_of n w) ≡ n
unfolding bits_of
length-bits_of zero w = refl
length-bits_of (suc n) w = ap suc (length-bits_of n (w / 2))

bits_of-at : (n w i : ℕ) → i < n → get_or (bits_of n w) i false ≡ eqb (bit_at w i) 1
unfolding bits_of
bits_of-at zero w i l = absurd (omega (arith, l))
bits_of-at (suc n) w zero l = ap (λ b. eqb b 1) (sym (bit_at_lowest w))
bits_of-at (suc n) w (suc i) l = bits_of-at n (w / 2) i (omega (arith, l)) ∙ ap (λ b. eqb b 1) (sym (bit_at-suc w i))

-- whether a value is in a set is its bit
pub member_at : (words : List ℕ) (v : ℕ) → get_or (members_in_words words) v false ≡ has_bit words v
unfolding members_in_words
member_at [] v = ap (λ b. eqb b 1) (sym (bit_at-zero (v % 64)))
member_at (w ∷ words) v = ⊎_elim
    (λ (l : v < 64).
    let first : v / 64 ≡ 0 = omega (arith, l) in
    let rest : v % 64 ≡ v = omega (arith, l) in
    get_or_append_left (bits_of 64 w) (members_in_words words) false v (omega (arith, l, length-bits_of 64 w)) ∙ bits_of-at 64 w v l
    ∙ (λ i. eqb (bit_at (get_or (w ∷ words) (sym first i) 0) (sym rest i)) 1))
    (λ (l : 64 ≤ v).
    let next : suc ((v - 64) / 64) ≡ v / 64 = omega (arith, l) in
    let rest : (v - 64) % 64 ≡ v % 64 = omega (arith, l) in
    get_or-append_right (bits_of 64 w) (members_in_words words) 64 v false (length-bits_of 64 w) l ∙ member_at words (v - 64)
    ∙ (λ i. eqb (bit_at (get_or (w ∷ words) (next i) 0) (rest i)) 1))
    (cases_lt v 64)

length-members_in_words : (words : List ℕ) → length (members_in_words words) ≡ 64 * length words
unfolding members_in_words
length-members_in_words [] = refl
length-members_in_words (w ∷ words) = omega (arith, length-append (bits_of 64 w) (members_in_words words), length-bits_of 64 w, length-members_in_words words)

-- four words are 256 members
pub length_four : (words : List ℕ) → length words ≡ 4 → length (members_in_words words) ≡ 256
length_four words four = omega (arith, four, length-members_in_words words)

-- a value put into a set

-- a word with one bit more
abbrev pub with_bit : ℕ → ℕ → ℕ
with_bit w k = bit_or w (1 * 2 ^ k % 2 ^ 64)

-- the words with bit k more in word i
abbrev pub words_at : List ℕ → ℕ → ℕ → List ℕ
words_at words i k = set words i (with_bit (get_or words i 0) k)

-- the words with the bit of a value more
abbrev pub words_with : List ℕ → ℕ → List ℕ
words_with words v = words_at words (v / 64) (v % 64)

bit_put : (words : List ℕ) (v : ℕ) → v / 64 < length words → has_bit (words_with words v) v ≡ true
bit_put words v within =
    ap (λ w. eqb (bit_at w (v % 64)) 1) (get_or-set_same words (v / 64) (with_bit (get_or words (v / 64) 0) (v % 64)) 0 within)
    ∙ ap (λ b. eqb b 1) (bit_at_set_same w64 (get_or words (v / 64) 0) (v % 64) (omega arith))

bit_kept : (words : List ℕ) (v i : ℕ) → v / 64 < length words → (i ≡ v → ⊥) → has_bit (words_with words v) i ≡ has_bit words i
bit_kept words v i within other = ⊎_elim
    (λ (e : i / 64 ≡ v / 64).
    ap (λ j. eqb (bit_at (get_or (words_with words v) j 0) (i % 64)) 1) e
    ∙ ap (λ w. eqb (bit_at w (i % 64)) 1) (get_or-set_same words (v / 64) (with_bit (get_or words (v / 64) 0) (v % 64)) 0 within)
    ∙ ap (λ b. eqb b 1) (bit_at_set_other w64 (get_or words (v / 64) 0) (v % 64) (omega arith) (i % 64) (λ (f : i % 64 ≡ v % 64). other (omega (arith, e, f))))
    ∙ sym (ap (λ j. eqb (bit_at (get_or words j 0) (i % 64)) 1) e))
    (λ (ne : i / 64 ≡ v / 64 → ⊥). ap (λ w. eqb (bit_at w (i % 64)) 1) (get_or-set_other words (v / 64) (i / 64) (with_bit (get_or words (v / 64) 0) (v % 64)) 0 ne))
    (cases_eq (i / 64) (v / 64))

pub members_in_words-set : (words : List ℕ) (v : ℕ) → v < 256 → length words ≡ 4 → members_in_words (words_with words v) ≡ set (members_in_words words) v true
members_in_words-set words v below four =
    let within : v / 64 < length words = omega (arith, below, four) in
    let size : length (members_in_words words) ≡ 256 = length_four words four in
    let new_size : length (members_in_words (words_with words v)) ≡ 256 = length_four (words_with words v) (length-set words (v / 64) (with_bit (get_or words (v / 64) 0) (v % 64)) ∙ four) in
    ext_get_or false (members_in_words (words_with words v)) (set (members_in_words words) v true) (new_size ∙ sym (length-set (members_in_words words) v true ∙ size)) (λ i l.
    member_at (words_with words v) i ∙ ⊎_elim
    (λ (e : i ≡ v).
    ap (has_bit (words_with words v)) e ∙ bit_put words v within
    ∙ sym (ap (λ j. get_or (set (members_in_words words) v true) j false) e ∙ get_or-set_same (members_in_words words) v true false (omega (arith, below, size))))
    (λ (ne : i ≡ v → ⊥). bit_kept words v i within ne ∙ sym (get_or-set_other (members_in_words words) v i true false ne ∙ member_at words i))
    (cases_eq i v))

pub words-set : (words : List ℕ) (v : ℕ) → v < 256 → AreWords words → AreWords (words_with words v)
words-set words v below are =
    let within : v / 64 < length words = omega (arith, below, are.four) in
    record {
      four = length-set words (v / 64) (with_bit (get_or words (v / 64) 0) (v % 64)) ∙ are.four;
      small = All-set (λ w. w < 2 ^ 64) words (v / 64) (with_bit (get_or words (v / 64) 0) (v % 64)) (or_lt 64 _ _ (All-get_or (λ w. w < 2 ^ 64) words (v / 64) 0 within are.small) (mod_below (1 * 2 ^ (v % 64)) (2 ^ 64) (pow_pos 64))) are.small;
    }

-- behind the last word there is no bit
pub no_bit_behind : (words : List ℕ) (v : ℕ) → 64 * length words ≤ v → has_bit words v ≡ false
no_bit_behind words v past = ap (λ w. eqb (bit_at w (v % 64)) 1) (get_or_past words (v / 64) 0 (omega (arith, past))) ∙ ap (λ b. eqb b 1) (bit_at-zero (v % 64))

-- a word has no bit from a place on, if it is less than that power of two
pub no_bit_from : (words : List ℕ) (at m v : ℕ) → get_or words at 0 < 2 ^ m → 64 * at + m ≤ v → v < 64 * (at + 1) → has_bit words v ≡ false
no_bit_from words at m v small from within =
    let word : at ≡ v / 64 = omega (arith, from, within) in
    ap (λ i. eqb (bit_at (get_or words i 0) (v % 64)) 1) (sym word) ∙ ap (λ b. eqb b 1) (bit_at_above (get_or words at 0) m (v % 64) small (omega (arith, from, within, word)))
