-- Lines of numbers: what is read of one is what is written, and the other way round.
use Rattle.std.proofs.Common.{◌≡◌, ◌≢◌, ℕ, zero, suc, ◌+◌, ◌-◌, ◌*◌, ◌/◌, ◌%◌, ◌^◌, ◌≤◌, ◌<◌, eqb, ltb, ne_eqb, inl, inr, ◌⊎◌, ⊎_elim, Bool, true, false, cond, List, [], ◌∷◌, ◌++◌, All, Option, Some, None, sym, refl, ap, ◌∙◌, subst, append_assoc, arith}
use Rattle.std.specs.Char.{is_ascii_digit}
use Rattle.std.specs.Fmt.{decimal}
use Rattle.std.specs.List.{flat_map}
use Rattle.std.proofs.lemmas.Bool.Decides.{nat_tests, eqb_tells, leb_tells}
use Rattle.std.proofs.lemmas.Fmt.{decimal_digit, decimal_step, decimal_by_steps}
use Rattle.std.proofs.lemmas.List.{append-nil}
use Rattle.std.proofs.lemmas.Option.{same_Some}
use Rattle.std.proofs.lemmas.List.Elements.{All-append, All-cons, All-tail}
use Rattle.feed_queue.specs.Journal.{number_text}
use Rattle.feed_queue.specs.NumberReading.{longer_number, after_digit, ReadSoFar, ended_by_space, with_number, after_byte, read_on, numbers_read, line_numbers}

pub read_append : (s : ReadSoFar) (a b : List ℕ) → read_on s (a ++ b) ≡ read_on (read_on s a) b
read_append s [] b = refl
read_append None (x ∷ a) [] = refl
read_append None (x ∷ a) (y ∷ b) = refl
read_append (Some (numbers, number)) (x ∷ a) b = read_append (after_byte numbers number x) a b

pub read_none : (bytes : List ℕ) → read_on None bytes ≡ None
read_none [] = refl
read_none (b ∷ bytes) = refl

-- a digit is no space
digit_goes_on : (numbers : List ℕ) (number : Option ℕ) (d : ℕ) → d < 10 → after_byte numbers number (48 + d) ≡ with_number numbers (longer_number number d)
digit_goes_on numbers number d low =
    let other : eqb (48 + d) 32 ≡ false = ne_eqb (48 + d) 32 (λ (e : 48 + d ≡ 32). omega arith) in
    let digit : is_ascii_digit (48 + d) ≡ true = grind (arith, nat_tests, low) in
    let same : 48 + d - 48 ≡ d = omega arith in
    ap (λ b. cond b (ended_by_space numbers number) (with_number numbers (after_digit number (48 + d)))) other
    ∙ ap (λ b. with_number numbers (cond b (longer_number number (48 + d - 48)) None)) digit
    ∙ ap (λ k. with_number numbers (longer_number number k)) same

-- a number of 32 bits by the one before its last digit
longer_is : (n d m : ℕ) → 0 < n → 10 * n + d ≡ m → m < 2 ^ 32 → longer_number (Some n) d ≡ Some m
longer_is zero d m some is small = absurd (omega (arith, some))
longer_is (suc n) d m some is small =
    let fits : ltb (10 * suc n + d) (2 ^ 32) ≡ true = grind (arith, nat_tests, is, small) in
    ap (λ b. cond b (Some (10 * suc n + d)) None) fits ∙ ap Some is

abbrev Reads : ℕ → List ℕ → Type 0
Reads n text = n < 2 ^ 32 → (numbers : List ℕ) → read_on (Some (numbers, None)) text ≡ Some (numbers, Some n)

-- a decimal is read as its number
pub decimal_is_read : (n : ℕ) → n < 2 ^ 32 → (numbers : List ℕ) → read_on (Some (numbers, None)) (decimal n) ≡ Some (numbers, Some n)
decimal_is_read n small = decimal_by_steps Reads one more n (omega (arith, small)) small
  where
    one : (n : ℕ) → n < 10 → Reads n ((48 + n) ∷ [])
    one n low small numbers = digit_goes_on numbers None n low

    more : (n : ℕ) (text : List ℕ) → 10 ≤ n → Reads (n / 10) text → Reads n (text ++ ((48 + n % 10) ∷ []))
    more n text high so_far small numbers =
        read_append (Some (numbers, None)) text ((48 + n % 10) ∷ [])
        ∙ ap (λ s. read_on s ((48 + n % 10) ∷ [])) (so_far (omega (arith, small)) numbers)
        ∙ digit_goes_on numbers (Some (n / 10)) (n % 10) (omega arith)
        ∙ ap (with_number numbers) (longer_is (n / 10) (n % 10) n (omega (arith, high)) (omega arith) small)

-- numbers of 32 bits
abbrev pub AreSmall : List ℕ → Type 0
AreSmall numbers = All (λ n. n < 2 ^ 32) numbers

-- a line of numbers is read as these numbers
text_is_read : (n : ℕ) (more numbers : List ℕ) → AreSmall (n ∷ more) → numbers_read (read_on (Some (numbers, None)) (number_text (n ∷ more))) ≡ Some (numbers ++ n ∷ more)
text_is_read n [] numbers small = ap numbers_read (decimal_is_read n (small 0 0 (omega arith)) numbers)
text_is_read n (m ∷ more) numbers small =
    ap numbers_read (read_append (Some (numbers, None)) (decimal n) (32 ∷ number_text (m ∷ more)) ∙ ap (λ s. read_on s (32 ∷ number_text (m ∷ more))) (decimal_is_read n (small 0 0 (omega arith)) numbers))
    ∙ text_is_read m more (numbers ++ n ∷ []) (All-tail (λ n. n < 2 ^ 32) n (m ∷ more) small)
    ∙ ap Some (append_assoc numbers (n ∷ []) (m ∷ more))

pub numbers_of_text : (n : ℕ) (more : List ℕ) → AreSmall (n ∷ more) → line_numbers (number_text (n ∷ more)) ≡ Some (n ∷ more)
numbers_of_text n more small = text_is_read n more [] small

-- The text of what was read so far

abbrev ended : ℕ → List ℕ
ended n = decimal n ++ (32 ∷ [])

abbrev text_of : List ℕ → Option ℕ → List ℕ
text_of numbers None = flat_map ended numbers
text_of numbers (Some n) = flat_map ended numbers ++ decimal n

abbrev IsSmall : Option ℕ → Type 0
IsSmall None = Unit {0}
IsSmall (Some n) = n < 2 ^ 32

flat_map_more : (numbers : List ℕ) (n : ℕ) → flat_map ended (numbers ++ n ∷ []) ≡ flat_map ended numbers ++ ended n
flat_map_more [] n = append-nil (ended n)
flat_map_more (m ∷ numbers) n = ap (λ l. ended m ++ l) (flat_map_more numbers n) ∙ sym (append_assoc (ended m) (flat_map ended numbers) (ended n))

-- numbers that a space ends, and a last one, make a line
whole_text : (numbers : List ℕ) (n : ℕ) → flat_map ended numbers ++ decimal n ≡ number_text (numbers ++ n ∷ [])
whole_text [] n = refl
whole_text (m ∷ []) n = ap (λ l. l ++ decimal n) (append-nil (ended m)) ∙ append_assoc (decimal m) (32 ∷ []) (decimal n)
whole_text (m ∷ k ∷ numbers) n =
    append_assoc (ended m) (flat_map ended (k ∷ numbers)) (decimal n)
    ∙ append_assoc (decimal m) (32 ∷ []) (flat_map ended (k ∷ numbers) ++ decimal n)
    ∙ ap (λ l. decimal m ++ (32 ∷ l)) (whole_text (k ∷ numbers) n)

-- the text of a number, if there is one
abbrev digits_of : Option ℕ → List ℕ
digits_of None = []
digits_of (Some n) = decimal n

text_splits : (numbers : List ℕ) (number : Option ℕ) → text_of numbers number ≡ flat_map ended numbers ++ digits_of number
text_splits numbers None = sym (append-nil (flat_map ended numbers))
text_splits numbers (Some n) = refl

pub option_cases : {A : Type 0} (o : Option A) → (o ≡ None) ⊎ ((a : A) × (o ≡ Some a))
option_cases None = inl refl
option_cases (Some a) = inr (a, refl)

pub none_some : {A B : Type 0} (a : A) → None ≡ Some a → B
none_some a e = absurd (let f : None ≡ Some a = e in cc)

digit_range : (b : ℕ) → is_ascii_digit b ≡ true → (48 ≤ b) × (b ≤ 57)
digit_range b h = grind (arith, nat_tests, h)

-- a number and a digit more make a number whose text has that digit more
digit_makes : (number : Option ℕ) (b d m : ℕ) → b ≡ 48 + d → d < 10 → longer_number number d ≡ Some m → (m < 2 ^ 32) × (digits_of number ++ b ∷ [] ≡ decimal m)
digit_makes None b d m is low e =
    let same : d ≡ m = same_Some d m e in
    (omega (arith, same, low), ap (λ k. k ∷ []) is ∙ sym (decimal_digit d low) ∙ ap decimal same)
digit_makes (Some zero) b d m is low e = none_some m e
digit_makes (Some (suc n)) b d m is low e = ⊎_elim
    (λ (t : (ltb (10 * suc n + d) (2 ^ 32) ≡ true) × (suc (10 * suc n + d) ≤ 2 ^ 32)).
    let same : 10 * suc n + d ≡ m = same_Some _ m (sym (ap (λ b. cond b (Some (10 * suc n + d)) None) t.0) ∙ e) in
    let small : m < 2 ^ 32 = omega (arith, same, t.1) in
    let tens : m / 10 ≡ suc n = omega (arith, same, low) in
    let ones : 48 + m % 10 ≡ b = omega (arith, same, low, is) in
    (small, sym (decimal_step m (omega (arith, same)) (omega (arith, small)) ∙ (λ i. decimal (tens i) ++ (ones i ∷ [])))))
    (λ (t : (ltb (10 * suc n + d) (2 ^ 32) ≡ false) × (2 ^ 32 < suc (10 * suc n + d))). none_some m (sym (ap (λ b. cond b (Some (10 * suc n + d)) None) t.0) ∙ e))
    (leb_tells (suc (10 * suc n + d)) (2 ^ 32))

byte_makes : (number : Option ℕ) (b m : ℕ) → after_digit number b ≡ Some m → (m < 2 ^ 32) × (digits_of number ++ b ∷ [] ≡ decimal m)
byte_makes number b m e = ⊎_elim
    (λ (digit : is_ascii_digit b ≡ true).
    let range = digit_range b digit in
    digit_makes number b (b - 48) m (omega (arith, range.0)) (omega (arith, range.1)) (sym (ap (λ t. cond t (longer_number number (b - 48)) None) digit) ∙ e))
    (λ (other : is_ascii_digit b ≡ false). none_some m (sym (ap (λ t. cond t (longer_number number (b - 48)) None) other) ∙ e))
    (bool_cases (is_ascii_digit b))
  where
    bool_cases : (t : Bool) → (t ≡ true) ⊎ (t ≡ false)
    bool_cases true = inl refl
    bool_cases false = inr refl

-- what holds of a line that goes on from what was read so far
abbrev IsRest : List ℕ → List ℕ → Type 0
IsRest line all = (numbers : List ℕ) (number : Option ℕ) → AreSmall numbers → IsSmall number → numbers_read (read_on (Some (numbers, number)) line) ≡ Some all → (text_of numbers number ++ line ≡ number_text all) × AreSmall all

and_last : (numbers : List ℕ) (n : ℕ) → AreSmall numbers → n < 2 ^ 32 → AreSmall (numbers ++ n ∷ [])
and_last numbers n small last = All-append (λ n. n < 2 ^ 32) numbers (n ∷ []) small (All-cons (λ n. n < 2 ^ 32) n [] last (λ k d less. absurd (omega arith)))

-- a space
space_more : (b : ℕ) (line all numbers : List ℕ) (number : Option ℕ) → IsRest line all → AreSmall numbers → IsSmall number → numbers_read (read_on (ended_by_space numbers number) line) ≡ Some all → b ≡ 32 → (text_of numbers number ++ b ∷ line ≡ number_text all) × AreSmall all
space_more b line all numbers None rest small last e is = none_some all (sym (ap numbers_read (read_none line)) ∙ e)
space_more b line all numbers (Some n) rest small last e is =
    let more = rest (numbers ++ n ∷ []) None (and_last numbers n small last) tt e in
    let before = flat_map ended numbers in (
      ap (λ x. (before ++ decimal n) ++ (x ∷ line)) is
          ∙ sym (append_assoc (before ++ decimal n) (32 ∷ []) line)
          ∙ ap (λ l. l ++ line) (append_assoc before (decimal n) (32 ∷ []) ∙ sym (flat_map_more numbers n))
          ∙ more.0,
      more.1,
    )

-- any other byte
digit_more : (b : ℕ) (line all numbers : List ℕ) (number : Option ℕ) → IsRest line all → AreSmall numbers → (after_digit number b ≡ None) ⊎ ((m : ℕ) × (after_digit number b ≡ Some m))
    → numbers_read (read_on (with_number numbers (after_digit number b)) line) ≡ Some all → (text_of numbers number ++ b ∷ line ≡ number_text all) × AreSmall all
digit_more b line all numbers number rest small (inl none) e = none_some all (sym (ap numbers_read (ap (λ o. read_on (with_number numbers o) line) none ∙ read_none line)) ∙ e)
digit_more b line all numbers number rest small (inr (m, some)) e =
    let made = byte_makes number b m some in
    let more = rest numbers (Some m) small made.0 (sym (ap (λ o. numbers_read (read_on (with_number numbers o) line)) some) ∙ e) in
    let before = flat_map ended numbers in (
      ap (λ l. l ++ (b ∷ line)) (text_splits numbers number)
          ∙ sym (append_assoc (before ++ digits_of number) (b ∷ []) line)
          ∙ ap (λ l. l ++ line) (append_assoc before (digits_of number) (b ∷ []) ∙ ap (λ l. before ++ l) made.1)
          ∙ more.0,
      more.1,
    )

-- what is read of a line are numbers of which it is the text
read_is_text : (line all : List ℕ) → IsRest line all
read_is_text [] all numbers None small last e = none_some all e
read_is_text [] all numbers (Some n) small last e =
    let same : numbers ++ n ∷ [] ≡ all = same_Some _ all e in
    (append-nil _ ∙ whole_text numbers n ∙ ap number_text same, subst AreSmall same (and_last numbers n small last))
read_is_text (b ∷ line) all numbers number small last e =
    let rest = read_is_text line all in
    let after : Bool → ReadSoFar = λ x. cond x (ended_by_space numbers number) (with_number numbers (after_digit number b)) in
    ⊎_elim
    (λ (t : (eqb b 32 ≡ true) × (b ≡ 32)). space_more b line all numbers number rest small last (sym (ap (λ x. numbers_read (read_on (after x) line)) t.0) ∙ e) t.1)
    (λ (t : (eqb b 32 ≡ false) × (b ≢ 32)). digit_more b line all numbers number rest small (option_cases (after_digit number b)) (sym (ap (λ x. numbers_read (read_on (after x) line)) t.0) ∙ e))
    (eqb_tells b 32)

pub text_of_numbers : (line all : List ℕ) → line_numbers line ≡ Some all → (line ≡ number_text all) × AreSmall all
text_of_numbers line all e = read_is_text line all [] None (λ k d less. absurd (omega arith)) tt e
