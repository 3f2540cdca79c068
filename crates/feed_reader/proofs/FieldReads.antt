-- How `csv` reads a field of a regular line.
use Rattle.std.proofs.Common.{◌≡◌, ◌∙◌, refl, sym, ap, subst, ℕ, ◌+◌, ◌-◌, ◌<◌, ◌≤◌, false, ◌==◌, List, [], ◌∷◌, ◌++◌, length, get_or, take, drop, Some, None, arith}
use Rattle.std.specs.List.{position}
use Rattle.std.proofs.lemmas.List.{append-nil, append_assoc, length-drop, take_rest}
use Rattle.std.proofs.lemmas.Bool.Decides.{nat_tests}
use Rattle.csv.specs.Machine.{next_record}
use Rattle.csv.specs.Reading.{default_config}
use Rattle.csv.specs.declared.parser.State.TheVariants as st
use Rattle.feed_reader.proofs.Splits.{Fails, first_none, first_some}
use Rattle.feed_reader.specs.Regular.{ReadsToComma, ReadsToLast, stops_field}

stops_none : (b : ℕ) → stops_field b ≡ false → ((b == 44) ≡ false) × ((b == 34) ≡ false) × ((b == 13) ≡ false) × ((b == 10) ≡ false)
stops_none b h = grind (arith, nat_tests)

-- bytes of a bare field are copied
bare_run : (f rest : List ℕ) (fields : List (List ℕ)) (field : List ℕ) → Fails stops_field f
    → next_record default_config st.InField fields field (f ++ rest) ≡ next_record default_config st.InField fields (field ++ f) rest
unfolding next_record
bare_run [] rest fields field h = rw (append-nil field) refl
bare_run (b ∷ f) rest fields field h =
    let no = stops_none b h.0 in
    let one : next_record default_config st.InField fields field (b ∷ (f ++ rest)) ≡ next_record default_config st.InField fields (field ++ b ∷ []) (f ++ rest) = rw (no.0, no.2, no.3) refl in
    one ∙ bare_run f rest fields (field ++ b ∷ []) h.1 ∙ ap (λ x. next_record default_config st.InField fields x rest) (append_assoc field (b ∷ []) f)

-- bytes in quotes are copied
quoted_run : (f rest : List ℕ) (fields : List (List ℕ)) (field : List ℕ) → Fails (λ b. b == 34) f
    → next_record default_config st.InQuoted fields field (f ++ rest) ≡ next_record default_config st.InQuoted fields (field ++ f) rest
unfolding next_record
quoted_run [] rest fields field h = rw (append-nil field) refl
quoted_run (b ∷ f) rest fields field h =
    let one : next_record default_config st.InQuoted fields field (b ∷ (f ++ rest)) ≡ next_record default_config st.InQuoted fields (field ++ b ∷ []) (f ++ rest) = rw h.0 refl in
    one ∙ quoted_run f rest fields (field ++ b ∷ []) h.1 ∙ ap (λ x. next_record default_config st.InQuoted fields x rest) (append_assoc field (b ∷ []) f)

-- a field that begins with a byte of a bare one is read as bare, and so is one that is empty
bare_byte : (b : ℕ) (xs : List ℕ) (fields : List (List ℕ)) → (b == 34) ≡ false → next_record default_config st.StartField fields [] (b ∷ xs) ≡ next_record default_config st.InField fields [] (b ∷ xs)
unfolding next_record
bare_byte b xs fields h = rw h refl

bare_start_comma : (f rest : List ℕ) (fields : List (List ℕ)) → Fails stops_field f → next_record default_config st.StartField fields [] (f ++ 44 ∷ rest) ≡ next_record default_config st.InField fields [] (f ++ 44 ∷ rest)
bare_start_comma [] rest fields h = bare_byte 44 rest fields refl
bare_start_comma (b ∷ f) rest fields h = bare_byte b (f ++ 44 ∷ rest) fields (stops_none b h.0).1

bare_start_last : (f : List ℕ) (fields : List (List ℕ)) → Fails stops_field f → next_record default_config st.StartField fields [] f ≡ next_record default_config st.InField fields [] f
unfolding next_record
bare_start_last [] fields h = refl
bare_start_last (b ∷ f) fields h = bare_byte b f fields (stops_none b h.0).1

-- a comma ends a field, and the end of the bytes ends it and the record
comma_ends : (rest : List ℕ) (fields : List (List ℕ)) (field : List ℕ) → next_record default_config st.InField fields field (44 ∷ rest) ≡ next_record default_config st.StartField (fields ++ field ∷ []) [] rest
unfolding next_record
comma_ends rest fields field = refl

-- where the bytes end in a field, the record ends with it
pub last_ends : (fields : List (List ℕ)) (field : List ℕ) → next_record default_config st.InField fields field [] ≡ Some (fields ++ field ∷ [], st.StartRecord, [])
unfolding next_record
last_ends fields field = refl

-- a bare field up to a comma
pub bare_to_comma : (xs : List ℕ) (k : ℕ) → Some k ≡ position stops_field xs → get_or xs k 0 ≡ 44 → ReadsToComma xs (take k xs) (take (length xs - (k + 1)) (drop (k + 1) xs))
bare_to_comma xs k e comma =
    let parts = first_some stops_field xs k e in
    let split : xs ≡ take k xs ++ 44 ∷ drop (k + 1) xs = subst (λ b. xs ≡ take k xs ++ b ∷ drop (k + 1) xs) comma parts.3 in
    let size = length-drop (k + 1) xs in
    let reads : ReadsToComma xs (take k xs) (drop (k + 1) xs) = (
      grind (arith, parts.0, size),
      λ fields. ap (next_record default_config st.StartField fields []) split ∙ bare_start_comma (take k xs) (drop (k + 1) xs) fields parts.1
          ∙ bare_run (take k xs) (44 ∷ drop (k + 1) xs) fields [] parts.1 ∙ comma_ends (drop (k + 1) xs) fields (take k xs),
    ) in
    rw (take_rest xs (k + 1)) reads

-- and one up to the end of the bytes
pub bare_to_last : (xs : List ℕ) → None ≡ position stops_field xs → ReadsToLast xs xs
bare_to_last xs e =
    let none = first_none stops_field xs e in
    λ fields. bare_start_last xs fields none ∙ ap (next_record default_config st.InField fields []) (sym (append-nil xs)) ∙ bare_run xs [] fields [] none ∙ last_ends fields xs

-- a quote at the start of a field opens it
opened : (bytes : List ℕ) (fields : List (List ℕ)) → next_record default_config st.StartField fields [] (34 ∷ bytes) ≡ next_record default_config st.InQuoted fields [] bytes
unfolding next_record
opened bytes fields = refl

-- and the next one closes it, behind what was copied of the field
to_quote : (xs : List ℕ) (k : ℕ) (fields : List (List ℕ)) (field : List ℕ) → Some k ≡ position (λ b. b == 34) xs
    → next_record default_config st.InQuoted fields field xs ≡ next_record default_config st.AfterQuote fields (field ++ take k xs) (drop (k + 1) xs)
unfolding next_record
to_quote xs k fields field e =
    let parts = first_some (λ b. b == 34) xs k e in
    let quote : get_or xs k 0 ≡ 34 = grind (arith, nat_tests, parts.2) in
    let split : xs ≡ take k xs ++ 34 ∷ drop (k + 1) xs = subst (λ b. xs ≡ take k xs ++ b ∷ drop (k + 1) xs) quote parts.3 in
    ap (next_record default_config st.InQuoted fields field) split ∙ quoted_run (take k xs) (34 ∷ drop (k + 1) xs) fields field parts.1

closed : (xs rest : List ℕ) (k : ℕ) (fields : List (List ℕ)) → Some k ≡ position (λ b. b == 34) xs → take (length xs - (k + 1)) (drop (k + 1) xs) ≡ rest
    → next_record default_config st.StartField fields [] (34 ∷ xs) ≡ next_record default_config st.AfterQuote fields (take k xs) rest
closed xs rest k fields e left =
    let after : drop (k + 1) xs ≡ rest = sym (take_rest xs (k + 1)) ∙ left in
    opened xs fields ∙ to_quote xs k fields [] e ∙ ap (next_record default_config st.AfterQuote fields (take k xs)) after

-- after it a comma ends the field, and so does the end of the bytes
comma_after_quote : (rest : List ℕ) (fields : List (List ℕ)) (field : List ℕ) → next_record default_config st.AfterQuote fields field (44 ∷ rest) ≡ next_record default_config st.StartField (fields ++ field ∷ []) [] rest
unfolding next_record
comma_after_quote rest fields field = refl

last_after_quote : (fields : List (List ℕ)) (field : List ℕ) → next_record default_config st.AfterQuote fields field [] ≡ Some (fields ++ field ∷ [], st.StartRecord, [])
unfolding next_record
last_after_quote fields field = refl

-- a field in quotes up to a comma
pub quoted_to_comma : (xs rest : List ℕ) (k : ℕ) → Some k ≡ position (λ b. b == 34) xs → take (length xs - (k + 1)) (drop (k + 1) xs) ≡ 44 ∷ rest → ReadsToComma (34 ∷ xs) (take k xs) rest
quoted_to_comma xs rest k e left =
    let size : length (take (length xs - (k + 1)) (drop (k + 1) xs)) ≡ length (44 ∷ rest) = ap length left in
    let whole : length (take (length xs - (k + 1)) (drop (k + 1) xs)) ≡ length (drop (k + 1) xs) = ap length (take_rest xs (k + 1)) in
    (omega (arith, size, whole, length-drop (k + 1) xs), λ fields. closed xs (44 ∷ rest) k fields e left ∙ comma_after_quote rest fields (take k xs))

no_bytes : (xs : List ℕ) → length xs < 1 → xs ≡ []
no_bytes [] h = refl
no_bytes (b ∷ xs) h = absurd (omega arith)

-- and one up to the end of the bytes
pub quoted_to_last : (xs : List ℕ) (k : ℕ) → Some k ≡ position (λ b. b == 34) xs → length (take (length xs - (k + 1)) (drop (k + 1) xs)) < 1 → ReadsToLast (34 ∷ xs) (take k xs)
quoted_to_last xs k e left = λ fields. closed xs [] k fields e (no_bytes (take (length xs - (k + 1)) (drop (k + 1) xs)) left) ∙ last_after_quote fields (take k xs)

-- a doubled quote is copied as one
doubled_quote : (rest : List ℕ) (fields : List (List ℕ)) (field : List ℕ) → next_record default_config st.AfterQuote fields field (34 ∷ rest) ≡ next_record default_config st.InQuoted fields (field ++ 34 ∷ []) rest
unfolding next_record
doubled_quote rest fields field = refl

-- over the front of these bytes, which stand behind an opening quote, this text was copied, and these bytes are left
abbrev pub Copies : List ℕ → List ℕ → List ℕ → Type 0
Copies bytes text left = (length left ≤ length bytes) × ((fields : List (List ℕ)) → next_record default_config st.StartField fields [] (34 ∷ bytes) ≡ next_record default_config st.InQuoted fields text left)

pub copies_none : (bytes : List ℕ) → Copies bytes [] bytes
copies_none bytes = (omega arith, opened bytes)

-- then the next quote is followed by these bytes
to_next : (bytes text left rest : List ℕ) (k : ℕ) → Copies bytes text left → Some k ≡ position (λ b. b == 34) left → take (length left - (k + 1)) (drop (k + 1) left) ≡ rest
    → (length rest < length left) × ((fields : List (List ℕ)) → next_record default_config st.StartField fields [] (34 ∷ bytes) ≡ next_record default_config st.AfterQuote fields (text ++ take k left) rest)
to_next bytes text left rest k so_far e is =
    let parts = first_some (λ b. b == 34) left k e in
    let after : drop (k + 1) left ≡ rest = sym (take_rest left (k + 1)) ∙ is in
    let size : length (drop (k + 1) left) ≡ length rest = ap length after in
    (omega (arith, parts.0, size, length-drop (k + 1) left), λ fields. so_far.1 fields ∙ to_quote left k fields text e ∙ ap (next_record default_config st.AfterQuote fields (text ++ take k left)) after)

pub copies_on : (bytes text left rest : List ℕ) (k : ℕ) → Copies bytes text left → Some k ≡ position (λ b. b == 34) left → take (length left - (k + 1)) (drop (k + 1) left) ≡ 34 ∷ rest
    → (length rest < length left) × Copies bytes ((text ++ take k left) ++ 34 ∷ []) rest
copies_on bytes text left rest k so_far e is =
    let next = to_next bytes text left (34 ∷ rest) k so_far e is in
    let less : length rest < length left = omega (arith, next.0) in
    (less, (omega (arith, less, so_far.0), λ fields. next.1 fields ∙ doubled_quote rest fields (text ++ take k left)))

pub copied_to_comma : (bytes text left rest : List ℕ) (k : ℕ) → Copies bytes text left → Some k ≡ position (λ b. b == 34) left → take (length left - (k + 1)) (drop (k + 1) left) ≡ 44 ∷ rest → ReadsToComma (34 ∷ bytes) (text ++ take k left) rest
copied_to_comma bytes text left rest k so_far e is =
    let next = to_next bytes text left (44 ∷ rest) k so_far e is in
    (omega (arith, next.0, so_far.0), λ fields. next.1 fields ∙ comma_after_quote rest fields (text ++ take k left))

pub copied_to_last : (bytes text left : List ℕ) (k : ℕ) → Copies bytes text left → Some k ≡ position (λ b. b == 34) left → length (take (length left - (k + 1)) (drop (k + 1) left)) < 1 → ReadsToLast (34 ∷ bytes) (text ++ take k left)
copied_to_last bytes text left k so_far e is =
    let next = to_next bytes text left [] k so_far e (no_bytes (take (length left - (k + 1)) (drop (k + 1) left)) is) in
    λ fields. next.1 fields ∙ last_after_quote fields (text ++ take k left)
