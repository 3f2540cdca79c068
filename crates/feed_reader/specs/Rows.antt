-- What a line after the header means: blank, a point, or the first fault.
use Rattle.std.specs.Prelude.{◌≡◌, ℕ, ◌-◌, ◌/◌, ◌^◌, Bool, false, not, nat_lt, nat_le, if◌then◌else◌, List, [], ◌∷◌, ◌++◌, map, take, length, get_or, Option, Some, None, Result, option_map, position, IsTrue, MatchResult, ⊤}
use Rattle.std.specs.List.{list_any, zip}
use Rattle.cube_view.specs.Limits.{has_text}
use Rattle.cube_view.specs.declared.spot.Point.{Point}
use Rattle.cube_view.specs.Validity.{is_weight, valid}
use Rattle.cube_view.specs.declared.category.Category.{Category}
use Rattle.cube_view.specs.declared.schema.Schema.{Schema}
use Rattle.outer_io.specs.Lines.{Line, Bytes, Long}
use Rattle.texts.specs.Decimals.{is_decimal}
use Rattle.std.specs.Str.Parse.{digits_value}
use Rattle.feed_reader.specs.Columns.{weight_item, category_items}
use Rattle.feed_reader.specs.Headers.{place_in}
use Rattle.feed_reader.specs.Records.{record_of}
use Rattle.feed_reader.specs.declared.column.Column.TheVariants as column
use Rattle.feed_reader.specs.declared.row.Row.{Row}
use Rattle.feed_reader.specs.declared.row.Row.TheVariants as row
use Rattle.feed_reader.specs.declared.row.RowFault.{RowFault}
use Rattle.feed_reader.specs.declared.row.RowFault.TheVariants as fault

-- the fault where the test holds
abbrev pub fault_if : Bool → RowFault → Option RowFault
fault_if test f = if test then Some f else None

-- the first fault of these
abbrev pub first_fault : List (Option RowFault) → Option RowFault
first_fault [] = None
first_fault (None ∷ rest) = first_fault rest
first_fault (Some f ∷ rest) = Some f

-- the call answers the fault, if there is one, and else the value
abbrev pub AnswersUnless : {A : Type 0} → Option RowFault → A → Result A RowFault → Type 0
AnswersUnless fault value result = MatchResult result (λ x. (fault ≡ None) × (x ≡ value)) (λ f. fault ≡ Some f)

-- the number that a field writes
abbrev pub number : List ℕ → ℕ
number field = digits_value 10 field

-- the bin of a time that is not before the start
abbrev pub bin_of : Schema → ℕ → ℕ
bin_of schema time = (time - schema.start) / schema.width

-- the field is none of the category's values, byte by byte
abbrev pub is_unknown : Category × List ℕ → Bool
is_unknown c = not (has_text c.0.values c.1)

-- the number of the field among the category's values
abbrev pub value_of : Category × List ℕ → ℕ
value_of c = place_in c.0.values c.1

-- the first category whose field is none of its values
abbrev pub first_unknown : List Category → List (List ℕ) → Option ℕ
first_unknown categories fields = position is_unknown (zip categories fields)

-- the fault of the first such category
abbrev pub unknown_value : List Category → List (List ℕ) → Option RowFault
unknown_value categories fields = option_map fault.UnknownValue (first_unknown categories fields)

-- the values of a point's four categories, those that the schema lacks being 0
abbrev pub values_of : List Category → List (List ℕ) → List ℕ
values_of categories fields = take 4 (map value_of (zip categories fields) ++ 0 ∷ 0 ∷ 0 ∷ 0 ∷ [])

-- there is a weight's field, and it is no decimal
abbrev pub is_weight_unread : Option (List ℕ) → Bool
is_weight_unread None = false
is_weight_unread (Some field) = not (is_decimal field)

-- what a record weighs: the number in the weight's field, or 1 where there is no such column
abbrev pub weight_in : Option (List ℕ) → ℕ
weight_in None = 1
weight_in (Some field) = number field

-- The faults that a record can have, in the order in which they are answered. Its fields are x, y, time, the weight's
-- where there is such a column, and the categories'.
abbrev pub faults_of : Schema → List ℕ → List ℕ → List ℕ → Option (List ℕ) → List (List ℕ) → List (Option RowFault)
faults_of schema x y time weight fields =
    fault_if (not (is_decimal x)) (fault.BadNumber column.X)
    ∷ fault_if (not (is_decimal y)) (fault.BadNumber column.Y)
    ∷ fault_if (not (is_decimal time)) (fault.BadNumber column.Time)
    ∷ fault_if (is_weight_unread weight) (fault.BadNumber column.Weight)
    ∷ fault_if (nat_le (2 ^ schema.depth) (number x)) (fault.BadTile column.X)
    ∷ fault_if (nat_le (2 ^ schema.depth) (number y)) (fault.BadTile column.Y)
    ∷ unknown_value schema.categories fields
    ∷ fault_if (nat_lt (number time) schema.start) fault.EarlyTime
    ∷ fault_if (nat_le (2 ^ 32) (bin_of schema (number time))) fault.LateTime
    ∷ fault_if (not (is_weight (weight_in weight))) fault.BadWeight
    ∷ []

-- the point of a record without fault
abbrev pub point_of : Schema → List ℕ → List ℕ → List ℕ → Option (List ℕ) → List (List ℕ) → Point
point_of schema x y time weight fields = record {
  spot = record { x = number x; y = number y; values = values_of schema.categories fields; bin = bin_of schema (number time) };
  weight = weight_in weight;
}

-- the fault, if there is one, else the point
abbrev pub row_unless : Option RowFault → Point → Row
row_unless None p = row.Point p
row_unless (Some f) p = row.Refused f

-- the call answers the point of a record with these fields, or its first fault
abbrev pub MeansParts : Schema → List ℕ → List ℕ → List ℕ → Option (List ℕ) → List (List ℕ) → Result Point RowFault → Type 0
MeansParts schema x y time weight fields = AnswersUnless (first_fault (faults_of schema x y time weight fields)) (point_of schema x y time weight fields)

-- what the fields of x, y, time and the columns after them mean
abbrev pub row_of_parts : Schema → List ℕ → List ℕ → List ℕ → Option (List ℕ) → List (List ℕ) → Row
row_of_parts schema x y time weight fields = row_unless (first_fault (faults_of schema x y time weight fields)) (point_of schema x y time weight fields)

-- what the fields of the needed columns mean
abbrev pub row_of_fields : Schema → List (List ℕ) → Row
row_of_fields schema (x ∷ y ∷ time ∷ rest) = row_of_parts schema x y time (weight_item schema.weight rest) (category_items schema.weight rest)
row_of_fields schema _ = row.Refused fault.ShortRow

-- a needed column's place is past the record's end
abbrev pub is_short : List ℕ → List (List ℕ) → Bool
is_short places fields = list_any (λ place. nat_le (length fields) place) places

-- the fields at the places
abbrev pub texts_at : List (List ℕ) → List ℕ → List (List ℕ)
texts_at fields places = map (λ place. get_or fields place []) places

-- the field at the place, if there is a place
abbrev pub text_at : List (List ℕ) → Option ℕ → Option (List ℕ)
text_at fields place = option_map (λ place. get_or fields place []) place

-- what a record means
abbrev pub row_of_record : Schema → List ℕ → Option (List (List ℕ)) → Row
row_of_record schema places None = row.Refused fault.BadRow
row_of_record schema places (Some fields) = if is_short places fields then row.Refused fault.ShortRow else row_of_fields schema (texts_at fields places)

-- what a line's bytes mean, with the places of the needed columns
abbrev pub row_of : Schema → List ℕ → List ℕ → Row
row_of schema places [] = row.Blank
row_of schema places (b ∷ bytes) = row_of_record schema places (record_of (b ∷ bytes))

-- what a line of a feed means
abbrev pub row_of_line : Schema → List ℕ → Line → Row
row_of_line schema places (Bytes bytes) = row_of schema places bytes
row_of_line schema places Long = row.Refused fault.LongLine

-- the row is no point, or a point of the schema
abbrev pub IsValidRow : Schema → Row → Type 0
IsValidRow schema row.Blank = ⊤
IsValidRow schema (row.Point p) = IsTrue (valid schema p)
IsValidRow schema (row.Refused f) = ⊤
