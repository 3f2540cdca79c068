-- What the first line of a feed means: the place of each needed column in a line, or the first fault.
use Rattle.std.specs.Prelude.{ℕ, Bool, ◌==◌, nat_lt, List, map, Option, Some, None, option_map, Result, Ok, Err, count_by, position}
use Rattle.std.specs.List.{position_or_len}
use Rattle.std.specs.Option.{option_or}
use Rattle.cube_view.specs.Limits.{same_text}
use Rattle.cube_view.specs.declared.schema.Schema.{Schema}
use Rattle.feed_reader.specs.Columns.{needed_names, column_at}
use Rattle.feed_reader.specs.Records.{record_of}
use Rattle.feed_reader.specs.declared.column.Column.{Column}
use Rattle.feed_reader.specs.declared.header.HeadFault.{HeadFault}
use Rattle.feed_reader.specs.declared.header.HeadFault.TheVariants as head

-- how many fields are the name, byte by byte
abbrev pub count_named : List (List ℕ) → List ℕ → ℕ
count_named fields name = count_by (same_text name) fields

-- how many fields are the name of each needed column
abbrev pub counts_named : Schema → List (List ℕ) → List ℕ
counts_named schema fields = map (count_named fields) (needed_names schema)

-- the needed column at the first place whose number passes the test
abbrev pub first_column : Schema → (ℕ → Bool) → List ℕ → Option Column
first_column schema test counts = option_map (column_at schema) (position test counts)

-- the fault of a header in which so many fields are the name of each needed column, if it has one
abbrev pub column_fault : Schema → List ℕ → Option HeadFault
column_fault schema counts =
    option_or (option_map head.NoColumn (first_column schema (λ count. count == 0) counts))
    (option_map head.TwoColumns (first_column schema (λ count. nat_lt 1 count) counts))

-- the place of the first text of the list that is this one, from 0
abbrev pub place_in : List (List ℕ) → List ℕ → ℕ
place_in texts t = position_or_len (same_text t) texts

-- the fault, if there is one, else the value
abbrev pub unless_fault : {A F : Type 0} → Option F → Result A F → Result A F
unless_fault None r = r
unless_fault (Some f) r = Err f

-- what a header's fields mean
abbrev pub head_of_fields : Schema → List (List ℕ) → Result (List ℕ) HeadFault
head_of_fields schema fields = unless_fault (column_fault schema (counts_named schema fields)) (Ok (map (place_in fields) (needed_names schema)))

-- what a header means whose fields are known, or that has not one record
abbrev pub head_of_record : Schema → Option (List (List ℕ)) → Result (List ℕ) HeadFault
head_of_record schema None = Err head.BadRow
head_of_record schema (Some fields) = head_of_fields schema fields

-- what a header line's bytes mean
abbrev pub head_of : Schema → List ℕ → Result (List ℕ) HeadFault
head_of schema line = head_of_record schema (record_of line)
