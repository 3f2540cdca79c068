-- Each point that a feed gives is one of the schema, and has the ranges of a point's type.
use Rattle.std.proofs.Common.{◌≡◌, ◌∙◌, sym, ap, ℕ, ◌^◌, ◌<◌, ◌≤◌, Bool, true, false, ◌&&◌, ◌==◌, eqb-true, ltb-true, nat_le, nat_lt, List, [], ◌∷◌, ◌++◌, All, drop, length, length-append, map, take, Option, Some, None, Result, Ok, Err, arith, refl}
use Rattle.std.specs.Prelude.{⊤}
use Rattle.std.specs.List.{list_all, zip}
use Rattle.std.proofs.lemmas.Bool.{and_parts, leb-false}
use Rattle.std.proofs.lemmas.List.{length-map, length-take}
use Rattle.std.proofs.lemmas.List.Elements.{All-cons, All-nil}
use Rattle.cube_view.specs.Limits.{category_in_range, is_between, is_category_name, is_value}
use Rattle.cube_view.proofs.SchemaBounds.{between_high, each_in_range}
use Rattle.cube_view.specs.Validity.{fits, is_weight, sound, tile_fits, values_fit, weight_is_told}
use Rattle.cube_view.specs.declared.category.Category.{Category}
use Rattle.cube_view.specs.declared.schema.Schema.{Schema}
use Rattle.outer_io.specs.Lines.{Line, Bytes, Long, lines}
use Rattle.feed_reader.specs.Accepting.{AcceptsSound, IsAccepted}
use Rattle.feed_reader.specs.Columns.{category_items, needed_count, needed_names, weight_item}
use Rattle.feed_reader.specs.Feeds.{accepted, feed_head, head_of_lines, points_in, rows, rows_under}
use Rattle.feed_reader.specs.Headers.{column_fault, counts_named, head_of_record, place_in, unless_fault}
use Rattle.feed_reader.specs.Records.{record_of}
use Rattle.feed_reader.specs.Rows.{IsValidRow, bin_of, faults_of, first_fault, is_short, number, point_of, row_of, row_of_fields, row_of_line, row_of_parts, row_of_record, row_unless, texts_at, value_of}
use Rattle.feed_reader.specs.declared.header.HeadFault.{HeadFault}
use Rattle.feed_reader.specs.declared.row.Row.{Row}
use Rattle.feed_reader.specs.declared.row.Row.TheVariants as row
use Rattle.feed_reader.specs.declared.row.RowFault.{RowFault}
use Rattle.feed_reader.specs.declared.row.RowFault.TheVariants as fault
use Rattle.feed_reader.proofs.FirstFault.{fault_if_none, first_fault_none}
use Rattle.feed_reader.proofs.ValidRows.{row_of-valid}

-- ---- the header's places

-- a header that is none is refused, so these are the places of its columns
head_places : (schema : Schema) (all : List Line) (places : List ℕ) → head_of_lines schema all ≡ Ok places → length places ≡ needed_count schema
head_places schema [] places h = absurd (cc h)
head_places schema (Long ∷ rest) places h = absurd (cc h)
head_places schema (Bytes line ∷ rest) places h = by (record_of line) h
  where
    found : (fields : List (List ℕ)) (o : Option HeadFault) → unless_fault o (Ok (map (place_in fields) (needed_names schema))) ≡ Ok places → length places ≡ needed_count schema
    found fields (Some f) e = absurd (cc e)
    found fields None e =
        let same : map (place_in fields) (needed_names schema) ≡ places = cc e in
        sym (ap (λ (ns : List ℕ). length ns) same) ∙ length-map (needed_names schema) (place_in fields)

    by : (o : Option (List (List ℕ))) → head_of_record schema o ≡ Ok places → length places ≡ needed_count schema
    by None e = absurd (cc e)
    by (Some fields) e = found fields (column_fault schema (counts_named schema fields)) e

-- ---- the ranges of a row's point

-- the row is no point, or one with a bin of 32 bits and four values
abbrev IsRangedRow : Row → Type 0
IsRangedRow row.Blank = ⊤
IsRangedRow (row.Point p) = (p.spot.bin < 2 ^ 32) × (length p.spot.values ≡ 4)
IsRangedRow (row.Refused f) = ⊤

four_values : (values : List ℕ) → length (take 4 (values ++ 0 ∷ 0 ∷ 0 ∷ 0 ∷ [])) ≡ 4
four_values values =
    let all = length-append values (0 ∷ 0 ∷ 0 ∷ 0 ∷ []) in
    length-take 4 (values ++ 0 ∷ 0 ∷ 0 ∷ 0 ∷ []) ∙ omega (arith, all)

parts_ranged : (schema : Schema) (x y time : List ℕ) (weight : Option (List ℕ)) (fields : List (List ℕ)) → IsRangedRow (row_of_parts schema x y time weight fields)
parts_ranged schema x y time weight fields = by (first_fault (faults_of schema x y time weight fields)) refl
  where
    by : (o : Option RowFault) → first_fault (faults_of schema x y time weight fields) ≡ o → IsRangedRow (row_unless o (point_of schema x y time weight fields))
    by (Some f) e = tt
    by None e =
        let late = fault_if_none (nat_le (2 ^ 32) (bin_of schema (number time))) fault.LateTime (first_fault_none (faults_of schema x y time weight fields) e 8) in
        (leb-false (2 ^ 32) (bin_of schema (number time)) late, four_values (map value_of (zip schema.categories fields)))

fields_ranged : (schema : Schema) (texts : List (List ℕ)) → IsRangedRow (row_of_fields schema texts)
fields_ranged schema [] = tt
fields_ranged schema (x ∷ []) = tt
fields_ranged schema (x ∷ y ∷ []) = tt
fields_ranged schema (x ∷ y ∷ time ∷ rest) = parts_ranged schema x y time (weight_item schema.weight rest) (category_items schema.weight rest)

record_ranged : (schema : Schema) (places : List ℕ) (o : Option (List (List ℕ))) → IsRangedRow (row_of_record schema places o)
record_ranged schema places None = tt
record_ranged schema places (Some fields) = by (is_short places fields) refl
  where
    by : (b : Bool) → is_short places fields ≡ b → IsRangedRow (row_of_record schema places (Some fields))
    by true e = rw e tt
    by false e = rw e (fields_ranged schema (texts_at fields places))

bytes_ranged : (schema : Schema) (places line : List ℕ) → IsRangedRow (row_of schema places line)
bytes_ranged schema places [] = tt
bytes_ranged schema places (b ∷ line) = record_ranged schema places (record_of (b ∷ line))

-- ---- values of categories are bytes

most_values : (c : Category) → category_in_range c ≡ true → length c.values ≤ 256
most_values c h =
    let named = (and_parts (is_category_name c.name && is_between 1 256 (length c.values)) (list_all is_value c.values) h).0 in
    let between = (and_parts (is_category_name c.name) (is_between 1 256 (length c.values)) named).1 in
    between_high 1 256 (length c.values) between

values_small : (categories : List Category) (values : List ℕ) → list_all category_in_range categories ≡ true → values_fit categories values ≡ true → All (λ v. v < 256) values
values_small categories [] ranges fit = All-nil (λ v. v < 256)
values_small [] (v ∷ values) ranges fit =
    let parts = and_parts (v == 0) (values_fit [] values) fit in
    let none = eqb-true v 0 parts.0 in
    All-cons (λ v. v < 256) v values (omega (arith, none)) (values_small [] values ranges parts.1)
values_small (c ∷ categories) (v ∷ values) ranges fit =
    let parts = and_parts (nat_lt v (length c.values)) (values_fit categories values) fit in
    let each = and_parts (category_in_range c) (list_all category_in_range categories) ranges in
    let less = ltb-true v (length c.values) parts.0 in
    let most = most_values c each.0 in
    All-cons (λ v. v < 256) v values (omega (arith, less, most)) (values_small categories values each.1 parts.1)

-- ---- points

-- the row is no point, or one that is accepted
abbrev IsAcceptedRow : Schema → Row → Type 0
IsAcceptedRow schema row.Blank = ⊤
IsAcceptedRow schema (row.Point p) = IsAccepted schema p
IsAcceptedRow schema (row.Refused f) = ⊤

row_accepted : (schema : Schema) (r : Row) → IsValidRow schema r → IsRangedRow r → IsAcceptedRow schema r
row_accepted schema row.Blank is ranged = tt
row_accepted schema (row.Refused f) is ranged = tt
row_accepted schema (row.Point p) is ranged =
    let is_sound = (and_parts (sound schema p) (weight_is_told schema.weight p.weight) is).0 in
    let fit = (and_parts (fits schema p.spot) (is_weight p.weight) is_sound).0 in
    let values = (and_parts (tile_fits schema.depth p.spot) (values_fit schema.categories p.spot.values) fit).1 in
    record {
      of_schema = is;
      bin = ranged.0;
      values = ranged.1;
      bytes = values_small schema.categories p.spot.values (each_in_range schema) values;
    }

line_accepted : (schema : Schema) (places : List ℕ) (line : Line) → length places ≡ needed_count schema → IsAcceptedRow schema (row_of_line schema places line)
line_accepted schema places Long same = tt
line_accepted schema places (Bytes bytes) same = row_accepted schema (row_of schema places bytes) (row_of-valid schema places bytes same) (bytes_ranged schema places bytes)

rows_accepted : (schema : Schema) (places : List ℕ) (all : List Line) → length places ≡ needed_count schema → All (IsAccepted schema) (points_in (map (row_of_line schema places) all))
rows_accepted schema places [] same = All-nil (IsAccepted schema)
rows_accepted schema places (line ∷ rest) same = by (row_of_line schema places line) (line_accepted schema places line same) (rows_accepted schema places rest same)
  where
    later : List Row
    later = map (row_of_line schema places) rest

    by : (r : Row) → IsAcceptedRow schema r → All (IsAccepted schema) (points_in later) → All (IsAccepted schema) (points_in (r ∷ later))
    by row.Blank is all = all
    by (row.Refused f) is all = all
    by (row.Point p) is all = All-cons (IsAccepted schema) p (points_in later) is all

pub accepts_sound : AcceptsSound
unfolding accepted rows feed_head
accepts_sound schema bytes = by (head_of_lines schema (lines bytes)) refl
  where
    by : (h : Result (List ℕ) HeadFault) → head_of_lines schema (lines bytes) ≡ h → All (IsAccepted schema) (points_in (rows_under schema h (drop 1 (lines bytes))))
    by (Ok places) e = rows_accepted schema places (drop 1 (lines bytes)) (head_places schema (lines bytes) places e)
    by (Err f) e = All-nil (IsAccepted schema)
