-- A row that is a point is one of the schema.
use Rattle.std.proofs.Common.{◌≡◌, refl, ℕ, zero, suc, ◌^◌, Bool, true, false, not, nat_le, nat_lt, ◌==◌, List, [], ◌∷◌, ◌++◌, length, map, take, Option, Some, None, option_map, arith}
use Rattle.std.specs.Prelude.{get_or, position}
use Rattle.std.specs.List.{list_any, position_or_len, zip}
use Rattle.std.proofs.lemmas.Bool.{not-false, or_parts}
use Rattle.std.proofs.lemmas.Bool.Decides.{nat_tests}
use Rattle.cube_view.specs.Limits.{has_text, same_text}
use Rattle.cube_view.specs.Validity.{is_weight, values_fit, weight_is_told}
use Rattle.cube_view.specs.declared.category.Category.{Category}
use Rattle.cube_view.specs.declared.schema.Schema.{Schema}
use Rattle.feed_reader.specs.Columns.{category_items, needed_count, weight_item}
use Rattle.feed_reader.specs.Records.{record_of}
use Rattle.feed_reader.specs.Rows.{IsValidRow, faults_of, first_fault, first_unknown, is_short, is_unknown, number, point_of, row_of, row_of_fields, row_of_record, row_of_parts, row_unless, texts_at, value_of, weight_in}
use Rattle.feed_reader.specs.declared.column.Column.TheVariants as column
use Rattle.feed_reader.specs.declared.row.RowFault.{RowFault}
use Rattle.feed_reader.specs.declared.row.RowFault.TheVariants as fault
use Rattle.feed_reader.proofs.Columns.{texts_length}
use Rattle.feed_reader.proofs.FirstFault.{fault_if_none, first_fault_none}

-- a test that passes somewhere passes at a place within the list
position_within : {A : Type 0} (p : A → Bool) (xs : List A) → list_any p xs ≡ true → nat_lt (position_or_len p xs) (length xs) ≡ true
position_within p [] h = absurd (cc h)
position_within p (x ∷ xs) h = by (p x) refl (position_within p xs)
  where
    by : (b : Bool) → p x ≡ b → (list_any p xs ≡ true → nat_lt (position_or_len p xs) (length xs) ≡ true) → nat_lt (position_or_len p (x ∷ xs)) (length (x ∷ xs)) ≡ true
    by true e later = rw e (grind (arith, nat_tests))
    by false e later =
        let found = later (rw e at h) in
        rw e (grind (arith, nat_tests, found))

nowhere : {A : Type 0} (p : A → Bool) (xs : List A) → position p xs ≡ None → list_any p xs ≡ false
nowhere p xs h = by (list_any p xs) refl
  where
    by : (b : Bool) → list_any p xs ≡ b → list_any p xs ≡ false
    by false e = e
    by true e =
        let within = position_within p xs e in
        absurd (cc (rw within at h))

zeros_fit : (n : ℕ) → values_fit [] (take n (0 ∷ 0 ∷ 0 ∷ 0 ∷ [])) ≡ true
zeros_fit zero = refl
zeros_fit (suc zero) = refl
zeros_fit (suc (suc zero)) = refl
zeros_fit (suc (suc (suc zero))) = refl
zeros_fit (suc (suc (suc (suc zero)))) = refl
zeros_fit (suc (suc (suc (suc (suc n))))) = refl

-- values that are all known fit their categories
known_fit : (n : ℕ) (categories : List Category) (fields : List (List ℕ)) → length fields ≡ length categories → list_any is_unknown (zip categories fields) ≡ false
    → values_fit categories (take n (map value_of (zip categories fields) ++ 0 ∷ 0 ∷ 0 ∷ 0 ∷ [])) ≡ true
known_fit n [] [] same known = zeros_fit n
known_fit n [] (f ∷ fields) same known = absurd (omega arith)
known_fit n (c ∷ categories) [] same known = absurd (omega arith)
known_fit zero (c ∷ categories) (f ∷ fields) same known = refl
known_fit (suc n) (c ∷ categories) (f ∷ fields) same known =
    let parts = or_parts (is_unknown (c, f)) (list_any is_unknown (zip categories fields)) known in
    let here = position_within (same_text f) c.values (not-false (has_text c.values f) parts.0) in
    let later = known_fit n categories fields (omega arith) parts.1 in
    rw (here, later) refl

unmapped : (o : Option ℕ) → option_map fault.UnknownValue o ≡ None → o ≡ None
unmapped None h = refl
unmapped (Some k) h = absurd (cc h)

-- a number that is not too large for a tile is below the limit
below : (a b : ℕ) → nat_le b a ≡ false → nat_lt a b ≡ true
below a b h = grind (arith, nat_tests)

-- without a weight column a record weighs 1
told : (column : Option (List ℕ)) (fields : List (List ℕ)) → weight_is_told column (weight_in (weight_item column fields)) ≡ true
told None fields = refl
told (Some name) fields = refl

parts-valid : (schema : Schema) (x y time : List ℕ) (weight : Option (List ℕ)) (fields : List (List ℕ)) → length fields ≡ length schema.categories → weight_is_told schema.weight (weight_in weight) ≡ true
    → IsValidRow schema (row_of_parts schema x y time weight fields)
parts-valid schema x y time weight fields same one = by (first_fault (faults_of schema x y time weight fields)) refl
  where
    by : (o : Option RowFault) → first_fault (faults_of schema x y time weight fields) ≡ o → IsValidRow schema (row_unless o (point_of schema x y time weight fields))
    by None e =
        let each = first_fault_none (faults_of schema x y time weight fields) e in
        let low_x = below (number x) (2 ^ schema.depth) (fault_if_none (nat_le (2 ^ schema.depth) (number x)) (fault.BadTile column.X) (each 4)) in
        let low_y = below (number y) (2 ^ schema.depth) (fault_if_none (nat_le (2 ^ schema.depth) (number y)) (fault.BadTile column.Y) (each 5)) in
        let fit = known_fit 4 schema.categories fields same (nowhere is_unknown (zip schema.categories fields) (unmapped (first_unknown schema.categories fields) (each 6))) in
        let heavy = not-false (is_weight (weight_in weight)) (fault_if_none (not (is_weight (weight_in weight))) fault.BadWeight (each 9)) in
        rw (low_x, low_y, fit, heavy) one
    by (Some f) e = tt

fields-valid : (schema : Schema) (places : List ℕ) (fields : List (List ℕ)) → length places ≡ needed_count schema → IsValidRow schema (row_of_fields schema (texts_at fields places))
fields-valid schema [] fields same = tt
fields-valid schema (x ∷ []) fields same = tt
fields-valid schema (x ∷ y ∷ []) fields same = tt
fields-valid schema (x ∷ y ∷ time ∷ places) fields same =
    let texts = texts_at fields places in
    parts-valid schema (get_or fields x []) (get_or fields y []) (get_or fields time []) (weight_item schema.weight texts) (category_items schema.weight texts) (texts_length schema fields places (omega (arith, same)))
    (told schema.weight texts)

record-valid : (schema : Schema) (places : List ℕ) (o : Option (List (List ℕ))) → length places ≡ needed_count schema → IsValidRow schema (row_of_record schema places o)
record-valid schema places None same = tt
record-valid schema places (Some fields) same = by (is_short places fields) refl
  where
    by : (b : Bool) → is_short places fields ≡ b → IsValidRow schema (row_of_record schema places (Some fields))
    by true e = rw e tt
    by false e = rw e (fields-valid schema places fields same)

pub row_of-valid : (schema : Schema) (places line : List ℕ) → length places ≡ needed_count schema → IsValidRow schema (row_of schema places line)
row_of-valid schema places [] same = tt
row_of-valid schema places (b ∷ line) same = record-valid schema places (record_of (b ∷ line)) same

-- a line with bytes is not blank
pub row_of_bytes : (schema : Schema) (places line : List ℕ) → (length line == 0) ≡ false → row_of schema places line ≡ row_of_record schema places (record_of line)
row_of_bytes schema places [] h = absurd (cc h)
row_of_bytes schema places (b ∷ line) h = refl
