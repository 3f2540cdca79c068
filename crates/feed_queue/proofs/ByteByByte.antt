-- A line that is read byte by byte.
use Rattle.std.proofs.Common.{◌≡◌, ◌≢◌, ℕ, ◌+◌, ◌≤◌, ◌<◌, ⊎_elim, eqb, Bool, true, false, cond, List, [], ◌∷◌, ◌++◌, Option, Some, None, IfNone, length, length-append, take, drop, get_or, sym, ap, ◌∙◌, arith}
use Rattle.std.proofs.lemmas.Bool.Decides.{eqb_tells}
use Rattle.std.proofs.lemmas.Grind.{take_at_read}
use Rattle.std.proofs.lemmas.List.{take-append-drop}
use Rattle.std.proofs.lemmas.Option.{same_Some}
use Rattle.feed_queue.specs.NumberReading.{after_digit, ReadSoFar, ended_by_space, with_number, after_byte, read_on, numbers_read, line_numbers}
use Rattle.feed_queue.proofs.NumberLines.{read_append, read_none, option_cases, none_some}

-- what is claimed of an answer that is none
pub if_none : {A : Type 0} (answer : Option A) (P : Type 0) → P → IfNone answer P
if_none None P p = p
if_none (Some a) P p = tt

abbrev start : ReadSoFar
start = Some ([], None)

-- one byte more
pub read_next : (line : List ℕ) (i b d : ℕ) (numbers : List ℕ) (number : Option ℕ) → i < length line → b ≡ get_or line i d → read_on start (take i line) ≡ Some (numbers, number) → read_on start (take (i + 1) line) ≡ after_byte numbers number b
read_next line i b d numbers number low is so_far =
    ap (read_on start) ((take_at_read line i d low).1 ∙ ap (λ x. take i line ++ x ∷ []) (sym is)) ∙ read_append start (take i line) (b ∷ []) ∙ ap (λ s. read_on s (b ∷ [])) so_far

same_pair : (p q : List ℕ × Option ℕ) → ◌≡◌ {A = ReadSoFar} (Some p) (Some q) → p.0 ≡ q.0
same_pair p q e = ap (λ (r : List ℕ × Option ℕ). r.0) (same_Some p q e)

spaced_longer : (numbers more : List ℕ) (number next : Option ℕ) → ended_by_space numbers number ≡ Some (more, next) → length numbers ≤ length more
spaced_longer numbers more None next e = none_some (more, next) e
spaced_longer numbers more (Some n) next e =
    let l = length-append numbers (n ∷ []) in
    let m = ap length (same_pair (numbers ++ n ∷ [], None) (more, next) e) in
    omega (arith, l, m)

numbered_longer : (numbers more : List ℕ) (number next : Option ℕ) → with_number numbers number ≡ Some (more, next) → length numbers ≤ length more
numbered_longer numbers more None next e = none_some (more, next) e
numbered_longer numbers more (Some n) next e = let m = ap length (same_pair (numbers, Some n) (more, next) e) in omega (arith, m)

-- no byte takes numbers back
byte_longer : (numbers more : List ℕ) (number next : Option ℕ) (b : ℕ) → after_byte numbers number b ≡ Some (more, next) → length numbers ≤ length more
byte_longer numbers more number next b e =
    let after : Bool → ReadSoFar = λ x. cond x (ended_by_space numbers number) (with_number numbers (after_digit number b)) in
    ⊎_elim
    (λ (t : (eqb b 32 ≡ true) × (b ≡ 32)). spaced_longer numbers more number next (sym (ap after t.0) ∙ e))
    (λ (t : (eqb b 32 ≡ false) × (b ≢ 32)). numbered_longer numbers more (after_digit number b) next (sym (ap after t.0) ∙ e))
    (eqb_tells b 32)

line_longer : (line numbers all : List ℕ) (number : Option ℕ) → numbers_read (read_on (Some (numbers, number)) line) ≡ Some all → length numbers ≤ length all
line_longer [] numbers all None e = none_some all e
line_longer [] numbers all (Some n) e = let l = length-append numbers (n ∷ []) in let m = ap length (same_Some (numbers ++ n ∷ []) all e) in omega (arith, l, m)
line_longer (b ∷ line) numbers all number e = ⊎_elim
    (λ (none : after_byte numbers number b ≡ None). none_some all (sym (ap (λ s. numbers_read (read_on s line)) none ∙ ap numbers_read (read_none line)) ∙ e))
    (λ (t : (s : List ℕ × Option ℕ) × (after_byte numbers number b ≡ Some s)).
    let rest = line_longer line t.0.0 all t.0.1 (sym (ap (λ s. numbers_read (read_on s line)) t.1) ∙ e) in
    let here = byte_longer numbers t.0.0 number t.0.1 b t.1 in
    omega (arith, rest, here))
    (option_cases (after_byte numbers number b))

-- a line at one of whose bytes there would be too many numbers has too many
pub too_many : (line : List ℕ) (i b d most : ℕ) (numbers : List ℕ) (number : Option ℕ) → i < length line → b ≡ get_or line i d → read_on start (take i line) ≡ Some (numbers, number)
    → ((more : List ℕ) (next : Option ℕ) → after_byte numbers number b ≡ Some (more, next) → most < length more) → (all : List ℕ) → line_numbers line ≡ Some all → most < length all
too_many line i b d most numbers number low is so_far refused all e =
    let next = read_next line i b d numbers number low is so_far in
    let rest = drop (i + 1) line in
    let split : read_on start line ≡ read_on (after_byte numbers number b) rest = ap (read_on start) (sym (take-append-drop (i + 1) line)) ∙ read_append start (take (i + 1) line) rest ∙ ap (λ s. read_on s rest) next in
    ⊎_elim
    (λ (none : after_byte numbers number b ≡ None). none_some all (sym (ap numbers_read (split ∙ ap (λ s. read_on s rest) none ∙ read_none rest)) ∙ e))
    (λ (t : (s : List ℕ × Option ℕ) × (after_byte numbers number b ≡ Some s)).
    let longer = line_longer rest t.0.0 all t.0.1 (sym (ap numbers_read (split ∙ ap (λ s. read_on s rest) t.1)) ∙ e) in
    let many = refused t.0.0 t.0.1 t.1 in
    omega (arith, longer, many))
    (option_cases (after_byte numbers number b))
