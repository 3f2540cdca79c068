-- A printed draft within its ranges nests little, has no float, and is short enough to be read.
use Rattle.std.proofs.Common.{◌≡◌, ℕ, ◌+◌, ◌*◌, ◌≤◌, ◌<◌, ◌^◌, Bool, true, false, cond, List, [], ◌∷◌, ◌++◌, length, map, Option, Some, None, refl, arith, rules, tests, length-append}
use Rattle.std.specs.Prelude.{max, codes, nat_lt, nat_le, ◌/◌, ◌%◌, ◌&&◌}
use Rattle.std.proofs.lemmas.Bool.{and_parts}
use Rattle.std.proofs.lemmas.Fmt.{length-decimal-le}
use Rattle.std.specs.List.{list_all, AllByRecursion}
use Rattle.std.specs.Char.{digit_char}
use Rattle.json.specs.Print.{escape_letter, escape_byte, escape, quoted}
use Rattle.serde_json.specs.Data.{Data, string, number, unsigned, array, object, Members, no_members, member, depth, items_depth, members_depth}
use Rattle.serde_json.specs.Read.{max_depth}
use Rattle.serde_json.specs.View.{items_of}
use Rattle.serde_json.specs.Written.{comma_if, compact_text, items_text, members_text, has_float, items_have_float, members_have_float}
use Rattle.cube_view.specs.Limits.{is_between, is_name_byte, is_value, is_category_name, category_in_range, categories_in_range, weight_in_range}
use Rattle.cube_view.specs.declared.category.Category.{Category}
use Rattle.cube_schema.specs.declared.draft.Draft.{Draft}
use Rattle.cube_schema.specs.Versions.{version_of}
use Rattle.cube_schema.specs.Printed.{texts_value, category_value, categories_value, weight_member, draft_members, draft_value}
use Rattle.cube_schema.specs.Ranges.{is_file_name, are_files, first_out_of_range}
use Rattle.cube_schema.specs.Meaning.{longest_plan}
use Rattle.cube_schema.proofs.InRange.{are_in_range}
use Rattle.cube_view.proofs.SchemaBounds.{between_high}
use Rattle.cube_schema.proofs.Limits.{version-is}

-- ---- how deep it nests

-- the value nests no deeper
record IsShallow (k : ℕ) (d : Data) : Type 0 where
  pub levels : depth d ≤ k

-- the members nest no deeper
record AreShallow (k : ℕ) (ms : Members) : Type 0 where
  pub levels : members_depth ms ≤ k

max_le : (k m n : ℕ) → m ≤ k → n ≤ k → max m n ≤ k
max_le k m n p q = omega arith

items_shallow : {A : Type 0} (k : ℕ) (value : A → Data) → ((a : A) → depth (value a) ≤ k) → (xs : List A) → items_depth (items_of (map value xs)) ≤ k
items_shallow k value each [] = omega arith
items_shallow k value each (x ∷ xs) = max_le k _ _ (each x) (items_shallow k value each xs)

then_shallow : {k : ℕ} {name : List ℕ} {d : Data} {ms : Members} → IsShallow k d → AreShallow k ms → AreShallow k (member name d ms)
then_shallow {k} this rest = record { levels = max_le k _ _ this.levels rest.levels }

none_shallow : {k : ℕ} → AreShallow k no_members
none_shallow = record { levels = omega arith }

string_shallow : {k : ℕ} (s : List ℕ) → IsShallow k (string s)
string_shallow s = record { levels = omega arith }

number_shallow : {k : ℕ} (n : ℕ) → IsShallow k (number (unsigned n))
number_shallow n = record { levels = omega arith }

object_shallow : (k : ℕ) (ms : Members) → AreShallow k ms → depth (object ms) ≤ k + 1
object_shallow k ms inside = omega (arith, inside.levels)

weight_shallow : {k : ℕ} {ms : Members} (weight : Option (List ℕ)) → AreShallow k ms → AreShallow k (weight_member weight ms)
weight_shallow None rest = rest
weight_shallow (Some name) rest = then_shallow (string_shallow name) rest

texts_depth : (texts : List (List ℕ)) → depth (texts_value texts) ≤ 1
texts_depth texts = omega (arith, items_shallow 0 string (λ _. omega arith) texts)

category_members : Category → Members
category_members c = member (codes "name") (string c.name) (member (codes "values") (texts_value c.values) no_members)

category_depth : (c : Category) → depth (category_value c) ≤ 2
unfolding category_members
category_depth c = object_shallow 1 (category_members c) (then_shallow (string_shallow c.name) (then_shallow (record { levels = texts_depth c.values }) none_shallow))

-- within the depth that the reader takes
pub draft_shallow : (draft : Draft) → depth (draft_value draft) ≤ max_depth
unfolding draft_value
draft_shallow draft =
    let text : (texts : List (List ℕ)) → IsShallow 126 (texts_value texts) = λ texts. record { levels = omega (arith, texts_depth texts) } in
    let table : IsShallow 126 (categories_value draft.categories) = record { levels = omega (arith, items_shallow 2 category_value category_depth draft.categories) } in
    let inside : AreShallow 126 (draft_members draft) =
    then_shallow (text draft.asks) (then_shallow (number_shallow draft.batch) (then_shallow table (then_shallow (number_shallow draft.depth)
    (then_shallow (text draft.feeds) (then_shallow (text draft.finals) (then_shallow (string_shallow draft.journal) (then_shallow (number_shallow draft.start)
    (then_shallow (number_shallow draft.version) (weight_shallow draft.weight (then_shallow (number_shallow draft.width) none_shallow)))))))))) in
    object_shallow 126 (draft_members draft) inside

-- ---- no float

items_whole : {A : Type 0} (value : A → Data) → ((a : A) → has_float (value a) ≡ false) → (xs : List A) → items_have_float (items_of (map value xs)) ≡ false
items_whole value each [] = refl
items_whole value each (x ∷ xs) = rw (each x, items_whole value each xs) refl

texts_whole : (texts : List (List ℕ)) → items_have_float (items_of (map string texts)) ≡ false
texts_whole texts = items_whole string (λ _. refl) texts

category_whole : (c : Category) → has_float (category_value c) ≡ false
category_whole c = rw (texts_whole c.values) refl

weight_whole : (weight : Option (List ℕ)) (ms : Members) → members_have_float (weight_member weight ms) ≡ members_have_float ms
weight_whole None ms = refl
weight_whole (Some name) ms = refl

pub draft_whole : (draft : Draft) → has_float (draft_value draft) ≡ false
unfolding draft_value
draft_whole draft = rw (texts_whole draft.asks, items_whole category_value category_whole draft.categories, texts_whole draft.feeds, texts_whole draft.finals, weight_whole draft.weight _) refl

-- ---- how long it is

escaped_len : (short control : Bool) (letter high low x : ℕ) → length (cond short (92 ∷ letter ∷ []) (cond control (92 ∷ 117 ∷ 48 ∷ 48 ∷ high ∷ low ∷ []) (x ∷ []))) ≤ 6
escaped_len true control letter high low x = omega arith
escaped_len false true letter high low x = omega arith
escaped_len false false letter high low x = omega arith

escape_byte_len : (x : ℕ) → length (escape_byte x) ≤ 6
unfolding escape_byte
escape_byte_len x = escaped_len (nat_lt 0 (escape_letter x)) (nat_lt x 32) (escape_letter x) (digit_char (x / 16)) (digit_char (x % 16)) x

escape_len : (s : List ℕ) → length (escape s) ≤ 6 * length s
escape_len [] = omega arith
escape_len (x ∷ s) = omega (arith, length-append (escape_byte x) (escape s), escape_byte_len x, escape_len s)

-- a byte of a text is written as at most six, `\u0000` and its kin
quoted_len : (n : ℕ) (s : List ℕ) → length s ≤ n → length (quoted s) ≤ 6 * n + 2
quoted_len n s short = omega (arith, length-append (escape s) (34 ∷ []), escape_len s)

comma_len : (later : Bool) → length (comma_if later) ≤ 1
comma_len true = omega arith
comma_len false = omega arith

items_len : {A : Type 0} (k : ℕ) (value : A → Data) (xs : List A) (later : Bool) → AllByRecursion (λ a. length (compact_text (value a)) ≤ k) xs
    → length (items_text later (items_of (map value xs))) ≤ (k + 1) * length xs + 1
items_len k value [] later each = omega arith
items_len k value (x ∷ xs) later each =
    let rest = items_len k value xs true each.1 in
    omega (
      arith,
      length-append (comma_if later) (compact_text (value x) ++ items_text true (items_of (map value xs))),
      comma_len later,
      length-append (compact_text (value x)) (items_text true (items_of (map value xs))),
      each.0,
    )

array_len : {A : Type 0} (k : ℕ) (value : A → Data) (xs : List A) → AllByRecursion (λ a. length (compact_text (value a)) ≤ k) xs
    → length (compact_text (array (items_of (map value xs)))) ≤ (k + 1) * length xs + 2
array_len k value xs each = let inside = items_len k value xs false each in omega arith

-- what follows from a test that each element passes
each_passes : {A : Type 0} (p : A → Bool) (Q : A → Type 0) → ((a : A) → p a ≡ true → Q a) → (xs : List A) → list_all p xs ≡ true → AllByRecursion Q xs
each_passes p Q then [] e = tt
each_passes p Q then (x ∷ xs) e =
    let both = and_parts (p x) (list_all p xs) e in
    (then x both.0, each_passes p Q then xs both.1)

value_len : (value : List ℕ) → is_value value ≡ true → length (compact_text (string value)) ≤ 386
value_len value e = quoted_len 64 value (between_high 1 64 (length value) (and_parts _ _ e).0)

file_len : (name : List ℕ) → is_file_name name ≡ true → length (compact_text (string name)) ≤ 386
file_len name e = quoted_len 64 name (between_high 1 64 (length name) (and_parts _ _ (and_parts _ _ e).0).0)

files_len : (least : ℕ) (names : List (List ℕ)) → are_files least names ≡ true → length (compact_text (texts_value names)) ≤ 3098
files_len least names e =
    let both = and_parts _ _ e in
    let few : length names ≤ 8 = between_high least 8 (length names) both.0 in
    omega (arith, array_len 386 string names (each_passes is_file_name _ file_len names both.1))

-- a category's name, or a weight column's, has at most 32 bytes
name_few : (name : List ℕ) → is_category_name name ≡ true → length name ≤ 32
name_few name e = between_high 1 32 (length name) (and_parts (is_between 1 32 (length name)) (list_all is_name_byte name) e).0

version_few : (weight : Option (List ℕ)) → version_of weight ≤ 2
version_few None = omega arith
version_few (Some name) = omega arith

-- the text of the value is no longer
record IsShort (n : ℕ) (d : Data) : Type 0 where
  pub bytes : length (compact_text d) ≤ n

-- the text of the members is no longer, with the closing bracket
record AreShort (later : Bool) (n : ℕ) (ms : Members) : Type 0 where
  pub bytes : length (members_text later ms) ≤ n

-- a member whose name has at most 10 bytes, with those after it
then_short : {later : Bool} {name : List ℕ} {d : Data} {ms : Members} {n : ℕ} (a b : ℕ) → IsShort a d → AreShort true b ms → length name ≤ 10 → 64 + a + b ≤ n → AreShort later n (member name d ms)
then_short {later} {name} {d} {ms} a b this rest short fits = record {
  bytes = omega (
    arith,
    comma_len later,
    quoted_len 10 name short,
    length-append (comma_if later) (quoted name ++ 58 ∷ (compact_text d ++ members_text true ms)),
    length-append (quoted name) (58 ∷ (compact_text d ++ members_text true ms)),
    length-append (compact_text d) (members_text true ms),
    this.bytes,
    rest.bytes,
  );
}

-- a weight column's name, where there is one, with the members after it
weight_short : {ms : Members} (b : ℕ) (weight : Option (List ℕ)) → weight_in_range weight ≡ true → AreShort true b ms → AreShort true (258 + b) (weight_member weight ms)
weight_short b None e rest = record { bytes = omega (arith, rest.bytes) }
weight_short b (Some name) e rest = then_short 194 b (record { bytes = quoted_len 32 name (name_few name e) }) rest (omega arith) (omega arith)

none_short : AreShort true 1 no_members
none_short = record { bytes = omega arith }

object_len : (ms : Members) (n : ℕ) → AreShort false n ms → length (compact_text (object ms)) ≤ n + 1
object_len ms n inside = omega (arith, inside.bytes)

category_len : (c : Category) → category_in_range c ≡ true → length (compact_text (category_value c)) ≤ 100000
unfolding category_members
category_len c e =
    let parts = and_parts (is_category_name c.name && is_between 1 256 (length c.values)) (list_all is_value c.values) e in
    let front = and_parts (is_category_name c.name) (is_between 1 256 (length c.values)) parts.0 in
    let name : IsShort 194 (string c.name) = record { bytes = quoted_len 32 c.name (name_few c.name front.0) } in
    let many : length c.values ≤ 256 = between_high 1 256 (length c.values) front.1 in
    let values : IsShort 99074 (texts_value c.values) = record { bytes = omega (arith, array_len 386 string c.values (each_passes is_value _ value_len c.values parts.1)) } in
    let inside : AreShort false 99999 (category_members c) = then_short 194 99200 name (then_short 99074 1 values none_short (omega arith) (omega arith)) (omega arith) (omega arith) in
    object_len (category_members c) 99999 inside

categories_len : (categories : List Category) → categories_in_range categories ≡ true → length (compact_text (categories_value categories)) ≤ 400006
categories_len categories e =
    let both = and_parts (nat_le (length categories) 4) (list_all category_in_range categories) e in
    let few : length categories ≤ 4 = let test = both.0 in search (rules, tests) in
    omega (arith, array_len 100000 category_value categories (each_passes category_in_range _ category_len categories both.1))

number_short : (n : ℕ) → n < 2 ^ 64 → IsShort 20 (number (unsigned n))
number_short n small = record { bytes = length-decimal-le 20 n (omega arith) (omega arith) small }

-- a draft in its ranges is printed in about 410,000 bytes at most
pub draft_short : (draft : Draft) → first_out_of_range draft ≡ None → draft.start < 2 ^ 64 → draft.width < 2 ^ 64 → length (compact_text (draft_value draft)) ≤ longest_plan
unfolding draft_value
draft_short draft ranges start width =
    let r = are_in_range draft ranges in
    let depth : draft.depth ≤ 20 = between_high 1 20 draft.depth r.depth in
    let batch : draft.batch ≤ 65536 = between_high 1 65536 draft.batch r.batch in
    let version = version-is draft ranges in
    let small_version = version_few draft.weight in
    let small : 10 ≤ 10 = omega arith in
    let asks : IsShort 3098 (texts_value draft.asks) = record { bytes = files_len 0 draft.asks r.asks } in
    let feeds : IsShort 3098 (texts_value draft.feeds) = record { bytes = files_len 1 draft.feeds r.feeds } in
    let finals : IsShort 3098 (texts_value draft.finals) = record { bytes = files_len 0 draft.finals r.finals } in
    let journal : IsShort 386 (string draft.journal) = record { bytes = file_len draft.journal r.journal } in
    let table : IsShort 400006 (categories_value draft.categories) = record { bytes = categories_len draft.categories r.categories } in
    let inside : AreShort false 1048575 (draft_members draft) =
    then_short 3098 410300 asks (then_short 20 410000 (number_short draft.batch (omega arith)) (then_short 400006 7600 table (then_short 20 7500 (number_short draft.depth (omega arith))
    (then_short 3098 4300 feeds (then_short 3098 1100 finals (then_short 386 600 journal (then_short 20 500 (number_short draft.start start)
    (then_short 20 358 (number_short draft.version (omega arith)) (weight_short 100 draft.weight r.weight (then_short 20 1 (number_short draft.width width) none_short
    (omega arith) (omega arith))) (omega arith) (omega arith)) (omega arith) (omega arith)) (omega arith) (omega arith)) (omega arith) (omega arith)) (omega arith) (omega arith))
    (omega arith) (omega arith)) (omega arith) (omega arith)) (omega arith) (omega arith)) (omega arith) (omega arith) in
    object_len (draft_members draft) 1048575 inside
