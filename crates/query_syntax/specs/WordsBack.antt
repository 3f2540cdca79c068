-- A set gives its words back.
use Rattle.std.specs.Prelude.{◌≡◌, ℕ, zero, suc, ◌+◌, ◌*◌, ◌/◌, ◌%◌, ◌^◌, ◌<◌, Bool, true, ◌==◌, if◌then◌else◌, List, [], ◌∷◌, ◌++◌, length, drop}
use Rattle.std.specs.List.{All, flat_map}
use Rattle.std.proofs.Common.{refl, sym, ◌∙◌, ap, add-one}
use Rattle.std.proofs.Math.Nat.{mod-eq_of_lt}
use Rattle.std.proofs.lemmas.Bool.{agree_below_at, eqb-true}
use Rattle.std.proofs.lemmas.List.Elements.{All-head, All-tail}
use Rattle.std.proofs.lemmas.Nat.{mod-pow-add, mod_below, pow_pos}
use Rattle.query_syntax.specs.SetBits.{bits_of, members_in_words, AreWords, number_of_bits, words_of}

nothing_left : (w : ℕ) → 0 ≡ w % 1
nothing_left w = eqb-true 0 (w % 1) (agree_below_at (λ m. 0 == m) (λ _. true) 1 (w % 1) refl (mod_below w 1 (pow_pos 0)))

low_bit : (w : ℕ) → (if w % 2 == 1 then 1 else 0) ≡ w % 2
low_bit w = eqb-true (if w % 2 == 1 then 1 else 0) (w % 2) (agree_below_at (λ m. (if m == 1 then 1 else 0) == m) (λ _. true) 2 (w % 2) refl (mod_below w 2 (pow_pos 1)))

number_of_bits-bits_of : (n w : ℕ) (rest : List Bool) → number_of_bits n (bits_of n w ++ rest) ≡ w % 2 ^ n
unfolding number_of_bits bits_of
number_of_bits-bits_of zero w rest = nothing_left w
number_of_bits-bits_of (suc n) w rest =
    ap (λ m. m * 2 + (if w % 2 == 1 then 1 else 0)) (number_of_bits-bits_of n (w / 2) rest)
    ∙ ap (λ b. (w / 2 % 2 ^ n) * 2 + b) (low_bit w)
    ∙ sym (mod-pow-add w n 1)
    ∙ ap (λ k. w % 2 ^ k) (add-one n)

drop-bits_of : (n w : ℕ) (rest : List Bool) → drop n (bits_of n w ++ rest) ≡ rest
unfolding bits_of
drop-bits_of zero w rest = refl
drop-bits_of (suc n) w rest = drop-bits_of n (w / 2) rest

words_of-members_in_words : (words : List ℕ) → All (λ w. w < 2 ^ 64) words → words_of (length words) (members_in_words words) ≡ words
unfolding words_of members_in_words
words_of-members_in_words [] small = refl
words_of-members_in_words (w ∷ words) small =
    let later = flat_map (bits_of 64) words in
    ap (λ v. v ∷ words_of (length words) (drop 64 (bits_of 64 w ++ later))) (number_of_bits-bits_of 64 w later ∙ mod-eq_of_lt (All-head (λ w. w < 2 ^ 64) w words small))
    ∙ ap (λ set. w ∷ words_of (length words) set) (drop-bits_of 64 w later)
    ∙ ap (λ ws. w ∷ ws) (words_of-members_in_words words (All-tail (λ w. w < 2 ^ 64) w words small))

pub words_back : (words : List ℕ) → AreWords words → words_of 4 (members_in_words words) ≡ words
words_back words are = ap (λ k. words_of k (members_in_words words)) (sym are.four) ∙ words_of-members_in_words words are.small
