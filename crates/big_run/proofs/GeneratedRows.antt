-- Each row of the generated feed is a point of the plan that is built in.
use Rattle.std.proofs.Common.{rules, ◌≡◌, ℕ, zero, suc, ◌+◌, ◌-◌, ◌/◌, ◌%◌, ◌^◌, ◌<◌, ◌≤◌, ◌&&◌, ◌==◌, Bool, true, false, not, nat_le, nat_lt, List, [], ◌∷◌, ◌++◌, length, Option, Some, None, option_map, map, refl, ap, sym, ◌∙◌, subst, arith, append_assoc, length-append}
use Rattle.std.specs.Char.{is_ascii_digit}
use Rattle.std.specs.Fmt.{decimal}
use Rattle.std.specs.List.{list_all}
use Rattle.std.specs.Str.Parse.{digits_value}
use Rattle.std.proofs.lemmas.Bool.{and_parts}
use Rattle.std.proofs.lemmas.Bool.Decides.{nat_tests}
use Rattle.std.proofs.lemmas.Fmt.{digits_decimal, digits_value-decimal}
use Rattle.std.proofs.lemmas.List.{append-nil}
use Rattle.std.proofs.lemmas.Str.Parse.{IsDigitsTest, IsNumeralModel, numerals_by_value}
use Rattle.std.proofs.lemmas.Fmt.{decimal_is_IsNumeral}
use Rattle.std.proofs.lemmas.List.Folds.{list_all-append}
use Rattle.csv.specs.Machine.{next_record}
use Rattle.csv.specs.Reading.{default_config}
use Rattle.csv.specs.declared.parser.State.TheVariants as st
use Rattle.cube_view.specs.Points.{Point}
use Rattle.feed_maker.proofs.Feeds.{few_digits}
use Rattle.feed_maker.specs.GeneratedFeed.{generated_row, generated_rows, next_state}
use Rattle.feed_reader.proofs.FieldReads.{last_ends}
use Rattle.feed_reader.proofs.LineRecords.{whole_record}
use Rattle.feed_reader.specs.Records.{begins_with_mark, record_of}
use Rattle.feed_reader.specs.Regular.{begins_record}
use Rattle.feed_reader.specs.RowCounts.{count_accepted, count_blank, count_refused}
use Rattle.feed_reader.specs.Rows.{fault_if, faults_of, first_fault, first_unknown, number, point_of, row_of, row_of_line, row_of_record, row_unless, unknown_value}
use Rattle.feed_reader.specs.declared.column.Column.TheVariants as column
use Rattle.feed_reader.specs.declared.row.Row.{Row}
use Rattle.feed_reader.specs.declared.row.Row.TheVariants as row
use Rattle.feed_reader.specs.declared.row.RowFault.{RowFault}
use Rattle.feed_reader.specs.declared.row.RowFault.TheVariants as fault
use Rattle.texts.specs.Decimals.{is_decimal}
use Rattle.outer_io.specs.Lines.{Bytes, line_of, lines_of, without_return}
use Rattle.texts.specs.LineFeeds.{pieces}
use Rattle.big_run.specs.BuiltIn.{big_schema, letter_kind}

tells_digits : IsDigitsTest (λ ds. list_all is_ascii_digit ds ≡ true)
tells_digits = search rules

-- std's laws of decimals, for digits as a test tells them
own : IsNumeralModel (λ ds. list_all is_ascii_digit ds ≡ true) (digits_value 10)
own = numerals_by_value _ tells_digits

-- the bytes are digits
abbrev AreDigits : List ℕ → Type 0
AreDigits bytes = list_all is_ascii_digit bytes ≡ true

-- What a byte of a field without quotes is not
record IsPlain (b : ℕ) : Type 0 where
  pub comma : (b == 44) ≡ false
  pub quote : (b == 34) ≡ false
  pub return : (b == 13) ≡ false
  pub feed : (b == 10) ≡ false
  pub mark : (b == 0xEF) ≡ false

plain_byte : (b : ℕ) → 48 ≤ b → b ≤ 122 → IsPlain b
plain_byte b low high = record { comma = grind (arith, nat_tests); quote = grind (arith, nat_tests); return = grind (arith, nat_tests); feed = grind (arith, nat_tests); mark = grind (arith, nat_tests) }

plain_digit : (b : ℕ) → is_ascii_digit b ≡ true → IsPlain b
plain_digit b digit = plain_byte b (grind (arith, nat_tests)) (grind (arith, nat_tests))

-- within a field `csv` copies a plain byte, and so digits
copies : (b : ℕ) (rest : List ℕ) (fields : List (List ℕ)) (field : List ℕ) → IsPlain b → next_record default_config st.InField fields field (b ∷ rest) ≡ next_record default_config st.InField fields (field ++ b ∷ []) rest
unfolding next_record
copies b rest fields field plain = rw (plain.comma, plain.return, plain.feed) refl

copies_digits : (bytes rest : List ℕ) (fields : List (List ℕ)) (field : List ℕ) → AreDigits bytes → next_record default_config st.InField fields field (bytes ++ rest) ≡ next_record default_config st.InField fields (field ++ bytes) rest
copies_digits [] rest fields field digits = ap (λ f. next_record default_config st.InField fields f rest) (sym (append-nil field))
copies_digits (b ∷ bytes) rest fields field digits =
    let both = and_parts (is_ascii_digit b) (list_all is_ascii_digit bytes) digits in
    copies b (bytes ++ rest) fields field (plain_digit b both.0)
    ∙ copies_digits bytes rest fields (field ++ b ∷ []) both.1
    ∙ ap (λ f. next_record default_config st.InField fields f rest) (append_assoc field (b ∷ []) bytes)

-- a plain byte begins a field
begins : (b : ℕ) (rest : List ℕ) (fields : List (List ℕ)) → IsPlain b → next_record default_config st.StartField fields [] (b ∷ rest) ≡ next_record default_config st.InField fields (b ∷ []) rest
unfolding next_record
begins b rest fields plain = rw (plain.quote, plain.comma, plain.return, plain.feed) refl

-- digits up to a comma are a field
digits_to_comma : (bytes rest : List ℕ) (fields : List (List ℕ)) → 0 < length bytes → AreDigits bytes → next_record default_config st.StartField fields [] (bytes ++ 44 ∷ rest) ≡ next_record default_config st.StartField (fields ++ bytes ∷ []) [] rest
unfolding next_record
digits_to_comma [] rest fields some digits = absurd (omega arith)
digits_to_comma (b ∷ bytes) rest fields some digits =
    let both = and_parts (is_ascii_digit b) (list_all is_ascii_digit bytes) digits in
    begins b (bytes ++ 44 ∷ rest) fields (plain_digit b both.0) ∙ copies_digits bytes (44 ∷ rest) fields (b ∷ []) both.1

-- digits up to the end are one too
digits_to_end : (bytes : List ℕ) (fields : List (List ℕ)) → 0 < length bytes → AreDigits bytes → next_record default_config st.StartField fields [] bytes ≡ Some (fields ++ bytes ∷ [], st.StartRecord, [])
digits_to_end [] fields some digits = absurd (omega arith)
digits_to_end (b ∷ bytes) fields some digits =
    let both = and_parts (is_ascii_digit b) (list_all is_ascii_digit bytes) digits in
    begins b bytes fields (plain_digit b both.0)
    ∙ ap (next_record default_config st.InField fields (b ∷ [])) (sym (append-nil bytes))
    ∙ copies_digits bytes [] fields (b ∷ []) both.1
    ∙ last_ends fields (b ∷ bytes)

-- one letter up to a comma
letter_to_comma : (letter : ℕ) (rest : List ℕ) (fields : List (List ℕ)) → IsPlain letter → next_record default_config st.StartField fields [] (letter ∷ 44 ∷ rest) ≡ next_record default_config st.StartField (fields ++ (letter ∷ []) ∷ []) [] rest
unfolding next_record
letter_to_comma letter rest fields plain = begins letter (44 ∷ rest) fields plain

-- Digits that write a number under 1,024
record IsSmallNumber (bytes : List ℕ) : Type 0 where
  pub some : 0 < length bytes
  pub short : length bytes ≤ 4
  pub digits : AreDigits bytes
  pub value : digits_value 10 bytes < 1024

small_decimal : (n : ℕ) → n < 1024 → IsSmallNumber (decimal n)
small_decimal n small =
    let fits : n < 2 ^ 64 = omega arith in
    let digits : AreDigits (decimal n) = digits_decimal own n fits in
    let value : digits_value 10 (decimal n) ≡ n = digits_value-decimal own n fits in
    record { some = (decimal_is_IsNumeral n fits).0.0; short = few_digits n small; digits = digits; value = omega arith }

-- a line of three numbers and a letter
abbrev four_line : List ℕ → List ℕ → ℕ → List ℕ → List ℕ
four_line x y letter time = x ++ 44 ∷ (y ++ 44 ∷ letter ∷ 44 ∷ time)

no_mark : (b : ℕ) (rest : List ℕ) → (b == 0xEF) ≡ false → begins_with_mark (b ∷ rest) ≡ false
no_mark b [] differs = refl
no_mark b (c ∷ []) differs = refl
no_mark b (c ∷ d ∷ rest) differs = rw differs refl

-- has four fields
four_record : (x y : List ℕ) (letter : ℕ) (time : List ℕ) → IsSmallNumber x → IsSmallNumber y → IsPlain letter → IsSmallNumber time → record_of (four_line x y letter time) ≡ Some (x ∷ y ∷ (letter ∷ []) ∷ time ∷ [])
four_record [] y letter time x_is y_is plain time_is = absurd (omega (arith, x_is.some))
four_record (b ∷ x) y letter time x_is y_is plain time_is =
    let line : List ℕ = four_line (b ∷ x) y letter time in
    let first = plain_digit b (and_parts (is_ascii_digit b) (list_all is_ascii_digit x) x_is.digits).0 in
    let read : next_record default_config st.StartField [] [] line ≡ Some ((b ∷ x) ∷ y ∷ (letter ∷ []) ∷ time ∷ [], st.StartRecord, []) =
    digits_to_comma (b ∷ x) (y ++ 44 ∷ letter ∷ 44 ∷ time) [] x_is.some x_is.digits
    ∙ digits_to_comma y (letter ∷ 44 ∷ time) ((b ∷ x) ∷ []) y_is.some y_is.digits
    ∙ letter_to_comma letter time ((b ∷ x) ∷ y ∷ []) plain
    ∙ digits_to_end time ((b ∷ x) ∷ y ∷ (letter ∷ []) ∷ []) time_is.some time_is.digits in
    let begins_first : begins_record line ≡ true = rw (first.return, first.feed) refl in
    rw (no_mark b (x ++ 44 ∷ (y ++ 44 ∷ letter ∷ 44 ∷ time)) first.mark) (whole_record line ((b ∷ x) ∷ y ∷ (letter ∷ []) ∷ time ∷ []) begins_first read)

-- where no test fails, there is no fault
none_first : (a b c e f g h i : Bool) (unknown : Option RowFault) → a ≡ false → b ≡ false → c ≡ false → e ≡ false → f ≡ false → unknown ≡ None → g ≡ false → h ≡ false → i ≡ false
    → first_fault (fault_if a (fault.BadNumber column.X) ∷ fault_if b (fault.BadNumber column.Y) ∷ fault_if c (fault.BadNumber column.Time) ∷ None ∷ fault_if e (fault.BadTile column.X) ∷ fault_if f (fault.BadTile column.Y) ∷ unknown ∷ fault_if g fault.EarlyTime ∷ fault_if h fault.LateTime ∷ fault_if i fault.BadWeight ∷ []) ≡ None
none_first a b c e f g h i unknown pa pb pc pe pf pu pg ph pi = rw (pa, pb, pc, pe, pf, pu, pg, ph, pi) refl

is_read : (bytes : List ℕ) → IsSmallNumber bytes → not (is_decimal bytes) ≡ false
is_read bytes is = rw is.digits (grind (arith, nat_tests, is.some, is.short, is.value))

is_inside : (bytes : List ℕ) → IsSmallNumber bytes → nat_le (2 ^ 10) (number bytes) ≡ false
is_inside bytes is = let small = is.value in grind (arith, nat_tests)

-- a, b, c and d are known
known_letter : (k : ℕ) → k < 4 → first_unknown (letter_kind ∷ []) (((97 + k) ∷ []) ∷ []) ≡ None
known_letter zero low = refl
known_letter (suc zero) low = refl
known_letter (suc (suc zero)) low = refl
known_letter (suc (suc (suc zero))) low = refl
known_letter (suc (suc (suc (suc k)))) low = absurd (omega arith)

-- so the line is a point
four_point : (x y time : List ℕ) (k : ℕ) → k < 4 → IsSmallNumber x → IsSmallNumber y → IsSmallNumber time → (p : Point) × (row_of big_schema (0 ∷ 1 ∷ 3 ∷ 2 ∷ []) (four_line x y (97 + k) time) ≡ row.Point p)
four_point x y time k low x_is y_is time_is =
    let letter : List ℕ = (97 + k) ∷ [] in
    let plain = plain_byte (97 + k) (omega arith) (omega arith) in
    let early : nat_lt (number time) 0 ≡ false = grind (arith, nat_tests) in
    let late : nat_le (2 ^ 32) ((number time - 0) / 1) ≡ false = let small = time_is.value in grind (arith, nat_tests) in
    let unknown : unknown_value (letter_kind ∷ []) (letter ∷ []) ≡ None = ap (option_map fault.UnknownValue) (known_letter k low) in
    let none : first_fault (faults_of big_schema x y time None (letter ∷ [])) ≡ None =
    none_first _ _ _ _ _ _ _ _ _ (is_read x x_is) (is_read y y_is) (is_read time time_is) (is_inside x x_is) (is_inside y y_is) unknown early late refl in (
      point_of big_schema x y time None (letter ∷ []),
      not_blank x y time (97 + k) x_is.some
          ∙ ap (row_of_record big_schema (0 ∷ 1 ∷ 3 ∷ 2 ∷ [])) (four_record x y (97 + k) time x_is y_is plain time_is)
          ∙ ap (λ (f : Option RowFault). row_unless f (point_of big_schema x y time None (letter ∷ []))) none,
    )
  where
    not_blank : (x y time : List ℕ) (letter : ℕ) → 0 < length x → row_of big_schema (0 ∷ 1 ∷ 3 ∷ 2 ∷ []) (four_line x y letter time) ≡ row_of_record big_schema (0 ∷ 1 ∷ 3 ∷ 2 ∷ []) (record_of (four_line x y letter time))
    not_blank [] y time letter some = absurd (omega (arith, some))
    not_blank (b ∷ x) y time letter some = refl

-- no byte of it ends a line
abbrev stays_in_line : ℕ → Bool
stays_in_line b = not (b == 13) && not (b == 10)

abbrev IsOneLine : List ℕ → Type 0
IsOneLine bytes = list_all stays_in_line bytes ≡ true

plain_stays : (b : ℕ) → IsPlain b → stays_in_line b ≡ true
plain_stays b plain = rw (plain.return, plain.feed) refl

digits_line : (bytes : List ℕ) → AreDigits bytes → IsOneLine bytes
digits_line [] digits = refl
digits_line (b ∷ bytes) digits =
    let both = and_parts (is_ascii_digit b) (list_all is_ascii_digit bytes) digits in
    rw (plain_stays b (plain_digit b both.0), digits_line bytes both.1) refl

line-append : (xs ys : List ℕ) → IsOneLine xs → IsOneLine ys → IsOneLine (xs ++ ys)
line-append xs ys one other = list_all-append stays_in_line xs ys ∙ rw (one, other) refl

stays_facts : (b : ℕ) → stays_in_line b ≡ true → ((b == 13) ≡ false) × ((b == 10) ≡ false)
stays_facts b stays = (grind (arith, nat_tests), grind (arith, nat_tests))

-- the piece up to a line feed
pieces-line : (bytes rest : List ℕ) → IsOneLine bytes → pieces (bytes ++ 10 ∷ rest) ≡ bytes ∷ pieces rest
pieces-line [] rest one = refl
pieces-line (b ∷ bytes) rest one =
    let both = and_parts (stays_in_line b) (list_all stays_in_line bytes) one in
    let no = stays_facts b both.0 in
    rw (no.1, pieces-line bytes rest both.1) refl

without_return-line : (bytes : List ℕ) → IsOneLine bytes → without_return bytes ≡ bytes
without_return-line [] one = refl
without_return-line (b ∷ []) one =
    let both = and_parts (stays_in_line b) true one in
    let no = stays_facts b both.0 in
    rw no.0 refl
without_return-line (b ∷ c ∷ bytes) one =
    let both = and_parts (stays_in_line b) (list_all stays_in_line (c ∷ bytes)) one in
    ap (λ rest. b ∷ rest) (without_return-line (c ∷ bytes) both.1)

-- the line of a state's row
abbrev state_line : ℕ → List ℕ
state_line s = four_line (decimal (s / 2 ^ 54)) (decimal (s / 2 ^ 44 % 1024)) (97 + s / 2 ^ 42 % 4) (decimal (s / 2 ^ 32 % 1024))

generated_row-line : (s : ℕ) (rest : List ℕ) → generated_row s ++ rest ≡ state_line s ++ 10 ∷ rest
generated_row-line s rest = simp append_assoc

state_one_line : (s : ℕ) → s < 2 ^ 64 → IsOneLine (state_line s)
state_one_line s fits =
    let x = small_decimal (s / 2 ^ 54) (omega arith) in
    let y = small_decimal (s / 2 ^ 44 % 1024) (omega arith) in
    let time = small_decimal (s / 2 ^ 32 % 1024) (omega arith) in
    let plain = plain_stays (97 + s / 2 ^ 42 % 4) (plain_byte (97 + s / 2 ^ 42 % 4) (omega arith) (omega arith)) in
    let last : IsOneLine (44 ∷ (97 + s / 2 ^ 42 % 4) ∷ 44 ∷ decimal (s / 2 ^ 32 % 1024)) = rw (plain, digits_line (decimal (s / 2 ^ 32 % 1024)) time.digits) refl in
    line-append (decimal (s / 2 ^ 54)) (44 ∷ (decimal (s / 2 ^ 44 % 1024) ++ 44 ∷ (97 + s / 2 ^ 42 % 4) ∷ 44 ∷ decimal (s / 2 ^ 32 % 1024))) (digits_line (decimal (s / 2 ^ 54)) x.digits)
    (line-append (decimal (s / 2 ^ 44 % 1024)) (44 ∷ (97 + s / 2 ^ 42 % 4) ∷ 44 ∷ decimal (s / 2 ^ 32 % 1024)) (digits_line (decimal (s / 2 ^ 44 % 1024)) y.digits) last)

line_of-state : (s : ℕ) → s < 2 ^ 64 → line_of false (state_line s) ≡ Bytes (state_line s)
line_of-state s fits =
    let x = small_decimal (s / 2 ^ 54) (omega arith) in
    let y = small_decimal (s / 2 ^ 44 % 1024) (omega arith) in
    let time = small_decimal (s / 2 ^ 32 % 1024) (omega arith) in
    let size : length (state_line s) ≤ 4096 =
    omega (
      arith,
      x.short,
      y.short,
      time.short,
      length-append (decimal (s / 2 ^ 54)) (44 ∷ (decimal (s / 2 ^ 44 % 1024) ++ 44 ∷ (97 + s / 2 ^ 42 % 4) ∷ 44 ∷ decimal (s / 2 ^ 32 % 1024))),
      length-append (decimal (s / 2 ^ 44 % 1024)) (44 ∷ (97 + s / 2 ^ 42 % 4) ∷ 44 ∷ decimal (s / 2 ^ 32 % 1024)),
    ) in
    let short : nat_lt 4096 (length (state_line s)) ≡ false = grind (arith, nat_tests) in
    rw short (ap Bytes (without_return-line (state_line s) (state_one_line s fits)))

-- What is told of the rows of lines: all are points, so many
pub record ArePoints (rows : List Row) (count : ℕ) : Type 0 where
  pub accepted : count_accepted rows ≡ count
  pub blank : count_blank rows ≡ 0
  pub refused : count_refused rows ≡ 0

more_points : (p : Point) (r : Row) (rows : List Row) (count : ℕ) → r ≡ row.Point p → ArePoints rows count → ArePoints (r ∷ rows) (suc count)
more_points p r rows count is points =
    let blank : count_blank (row.Point p ∷ rows) ≡ 0 = points.blank in
    let refused : count_refused (row.Point p ∷ rows) ≡ 0 = points.refused in
    subst (λ (x : Row). ArePoints (x ∷ rows) (suc count)) (sym is) (record { accepted = ap suc points.accepted; blank = blank; refused = refused })

-- so a state's line is a point
state_point : (s : ℕ) → s < 2 ^ 64 → (p : Point) × (row_of_line big_schema (0 ∷ 1 ∷ 3 ∷ 2 ∷ []) (line_of false (state_line s)) ≡ row.Point p)
state_point s fits =
    let x = small_decimal (s / 2 ^ 54) (omega arith) in
    let y = small_decimal (s / 2 ^ 44 % 1024) (omega arith) in
    let time = small_decimal (s / 2 ^ 32 % 1024) (omega arith) in
    let low : s / 2 ^ 42 % 4 < 4 = omega arith in
    let point = four_point (decimal (s / 2 ^ 54)) (decimal (s / 2 ^ 44 % 1024)) (decimal (s / 2 ^ 32 % 1024)) (s / 2 ^ 42 % 4) low x y time in
    (point.0, ap (row_of_line big_schema (0 ∷ 1 ∷ 3 ∷ 2 ∷ [])) (line_of-state s fits) ∙ point.1)

-- so all rows are
pub all_points : (s count : ℕ) → ArePoints (map (row_of_line big_schema (0 ∷ 1 ∷ 3 ∷ 2 ∷ [])) (lines_of false (pieces (generated_rows s count)))) count
all_points s zero = record { accepted = refl; blank = refl; refused = refl }
all_points s (suc count) =
    let t : ℕ = next_state s in
    let point = state_point t (omega arith) in
    let cut : pieces (generated_rows s (suc count)) ≡ state_line t ∷ pieces (generated_rows t count) =
    ap pieces (generated_row-line t (generated_rows t count)) ∙ pieces-line (state_line t) (generated_rows t count) (state_one_line t (omega arith)) in
    rw cut (more_points point.0 (row_of_line big_schema (0 ∷ 1 ∷ 3 ∷ 2 ∷ []) (line_of false (state_line t))) (map (row_of_line big_schema (0 ∷ 1 ∷ 3 ∷ 2 ∷ [])) (lines_of false (pieces (generated_rows t count)))) count point.1 (all_points t count))
