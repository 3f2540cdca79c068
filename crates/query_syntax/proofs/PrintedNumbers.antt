-- Printed decimals are read back.
use Rattle.std.proofs.Common.{◌≡◌, ℕ, ◌<◌, ◌^◌, true, false, List, [], ◌∷◌, length, Some, Ok, ap, refl, arith, rules}
use Rattle.std.specs.List.{list_all}
use Rattle.std.specs.Char.{is_ascii_digit}
use Rattle.std.specs.Fmt.{decimal}
use Rattle.std.specs.Str.Parse.{digits_value}
use Rattle.std.proofs.lemmas.Bool.Decides.{nat_tests}
use Rattle.std.proofs.lemmas.Str.Parse.{IsNumeralModel, numerals_by_value, IsDigitsTest}
use Rattle.std.proofs.lemmas.Fmt.{digits_decimal, digits_value-decimal, decimal_nonempty, length-decimal-le}
use Rattle.cube_view.specs.Limits.{is_between}
use Rattle.texts.specs.Decimals.{decimal_value, is_decimal}
use Rattle.query_syntax.specs.Reading.{number_of}
use Rattle.query_syntax.specs.Words.{space, slash, is_some_text}
use Rattle.query_syntax.proofs.WholeTexts.{stays_whole, is_plain, plain_whole, all_weaker, is_word}
use Rattle.std.proofs.lemmas.Bool.{and_from}

-- std's words for digits and their value
tells : IsDigitsTest (λ ds. list_all is_ascii_digit ds ≡ true)
tells = search rules

own : IsNumeralModel (λ ds. list_all is_ascii_digit ds ≡ true) (digits_value 10)
own = numerals_by_value _ tells

digits_of_number : (n : ℕ) → n < 2 ^ 64 → list_all is_ascii_digit (decimal n) ≡ true
digits_of_number n h = digits_decimal own n h

pub decimal_reads : (n : ℕ) → n < 2 ^ 64 → decimal_value (decimal n) ≡ Some n
unfolding decimal_value
decimal_reads n h =
    let digits : list_all is_ascii_digit (decimal n) ≡ true = digits_of_number n h in
    let value : digits_value 10 (decimal n) ≡ n = digits_value-decimal own n h in
    let some = decimal_nonempty n h in
    let short = length-decimal-le 20 n (omega arith) (omega arith) h in
    let is : is_decimal (decimal n) ≡ true = rw (digits, value) (grind (arith, nat_tests, some, short, h)) in
    rw is (ap Some value)

pub number_reads : (low high n number : ℕ) → n < 2 ^ 64 → is_between low high n ≡ true → number_of low high number (decimal n) ≡ Ok n
unfolding number_of
number_reads low high n number h between = rw (decimal_reads n h, between) refl

digit_in_line : (b : ℕ) → is_ascii_digit b ≡ true → is_plain space b ≡ true
digit_in_line b h = grind (arith, nat_tests, h)

digit_in_tile : (b : ℕ) → is_ascii_digit b ≡ true → is_plain slash b ≡ true
digit_in_tile b h = grind (arith, nat_tests, h)

pub some_from_length : (w : List ℕ) → 0 < length w → is_some_text w ≡ true
some_from_length [] h = absurd (omega arith)
some_from_length (b ∷ w) h = refl

pub decimal_whole_in_line : (n : ℕ) → n < 2 ^ 64 → stays_whole space false (decimal n) ≡ true
decimal_whole_in_line n h = plain_whole space (decimal n) (all_weaker is_ascii_digit (is_plain space) digit_in_line (decimal n) (digits_of_number n h))

pub decimal_whole_in_tile : (n : ℕ) → n < 2 ^ 64 → stays_whole slash false (decimal n) ≡ true
decimal_whole_in_tile n h = plain_whole slash (decimal n) (all_weaker is_ascii_digit (is_plain slash) digit_in_tile (decimal n) (digits_of_number n h))

pub decimal_is_word : (n : ℕ) → n < 2 ^ 64 → is_word (decimal n) ≡ true
decimal_is_word n h = and_from _ _ (some_from_length (decimal n) (decimal_nonempty n h)) (decimal_whole_in_line n h)
