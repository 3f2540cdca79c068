-- The reply that is taken out of a JSON value. It passes over what it does not look for: whether bytes are the
-- text of the reply is tested by its text alone.
use Rattle.std.specs.Prelude.{ℕ, ◌^◌, List, [], ◌∷◌, codes, nat_lt, find, if◌then◌else◌, Option, Some, None, option_map, option_and_then}
use Rattle.std.specs.Option.{option_map_or}
use Rattle.std.specs.Str.{bytes_eq, is_utf8}
use Rattle.serde_json.specs.Data.{Data, Items, no_items, item}
use Rattle.serde_json.specs.Find.{get, at, as_number, as_str, as_array, as_u64}
use Rattle.serde_json.specs.Read.{read}
use Rattle.query_syntax.specs.declared.fault.QueryFault.{QueryFault}
use Rattle.query_syntax.specs.declared.fault.QueryFault.TheVariants.{NotText, LongLine, BadQuote, UnknownVerb, MissingWord, BadNumber, OutOfRange, BadTile, TooDeep, UnknownCategory, UnknownValue, RepeatedFilter, UnknownFilter, TimeInSeries, InWithWindow, SameCategory}
use Rattle.query_syntax.specs.declared.table.RowOut.{RowOut}
use Rattle.reply_json.specs.declared.reply.Reply.{Reply}
use Rattle.reply_json.specs.Printed.{fault_name}

-- a JSON number that `serde_json` gives as a u64
abbrev pub unsigned_in : Data → Option ℕ
unsigned_in d = option_and_then as_u64 (as_number d)

infixl 10 ◌>>=◌
-- what comes of the next step, where there is something
abbrev ◌>>=◌ : {A B : Type 0} → Option A → (A → Option B) → Option B
o >>= next = option_and_then next o

-- the number, if it is under the limit
abbrev pub number_under : ℕ → ℕ → Option ℕ
number_under limit n = if nat_lt n limit then Some n else None

-- the number at a place of an array
abbrev pub number_in : Data → ℕ → Option ℕ
number_in d place = option_and_then unsigned_in (at place d)

-- the number of a member of an object
abbrev pub member_number : Data → List ℕ → Option ℕ
member_number d name = option_and_then unsigned_in (get name d)

-- the row of a tile, from an array of its z, x and y
abbrev pub area_of : Data → ℕ → Option RowOut
area_of d total = do
  z ← number_in d 0 >>= number_under (2 ^ 8)
  x ← number_in d 1 >>= number_under (2 ^ 32)
  y ← number_in d 2 >>= number_under (2 ^ 32)
  Some (RowOut.Area (record { z = z; x = x; y = y }) total)

-- the text at a place of an array
abbrev pub text_in : Data → ℕ → Option (List ℕ)
text_in d place = option_and_then as_str (at place d)

-- the row of two values, from an array of two texts and the total
abbrev pub pair_of : Data → ℕ → Option RowOut
pair_of d total = do
  first ← text_in d 0
  second ← text_in d 1
  Some (RowOut.Pair first second total)

-- the row of a value or of bins, from an array of two
abbrev pub value_or_bin : Data → ℕ → Option RowOut
value_or_bin d total = option_map_or (λ text. Some (RowOut.Value text total)) (text_in d 0) (option_map (λ start. RowOut.Bin start total) (number_in d 0))

-- the row of an array, by how many items it has
abbrev pub row_in : Data → Option RowOut
row_in d =
    option_map_or (area_of d) (number_in d 3)
    (option_map_or (pair_of d) (number_in d 2)
    (option_map_or (value_or_bin d) (number_in d 1) (option_map RowOut.One (number_in d 0))))

-- the rows of the items; none where one of them is no row
abbrev pub rows_in : Items → Option (List RowOut)
rows_in no_items = Some []
rows_in (item d ds) = option_and_then (λ row. option_map (λ others. row ∷ others) (rows_in ds)) (row_in d)

-- the table of an object with these rows
abbrev pub table_reply : Data → Data → Option Reply
table_reply d rows = do
  seen ← member_number d (codes "seen")
  rows ← option_and_then rows_in (as_array rows)
  Some (Reply.Table (record { rows = rows; seen = seen }))

-- the numbers of a structure
abbrev pub stat_reply : Data → ℕ → Option Reply
stat_reply d nodes = do
  proper ← member_number d (codes "proper")
  seen ← member_number d (codes "seen")
  shared ← member_number d (codes "shared")
  tables ← member_number d (codes "tables")
  Some (Reply.Stat (record { nodes = nodes; tables = tables; proper = proper; shared = shared }) seen)

-- the faults of queries
abbrev pub faults : List QueryFault
faults =
    NotText ∷ LongLine ∷ BadQuote ∷ UnknownVerb ∷ MissingWord ∷ BadNumber ∷ OutOfRange ∷ BadTile ∷ TooDeep
    ∷ UnknownCategory ∷ UnknownValue ∷ RepeatedFilter ∷ UnknownFilter ∷ TimeInSeries ∷ InWithWindow ∷ SameCategory ∷ []

-- the fault of that name
abbrev pub fault_named : List ℕ → Option QueryFault
fault_named name = find (λ fault. bytes_eq (fault_name fault) name) faults

-- the name of a fault, or of the want of memory
abbrev pub name_in : Data → Option (List ℕ)
name_in d = option_and_then as_str (get (codes "fault") d)

-- the fault that an object names
abbrev pub fault_in : Data → Option QueryFault
fault_in d = name_in d >>= fault_named

-- the fault of an object, at that word
abbrev pub fault_reply : Data → ℕ → Option Reply
fault_reply d word = do
  word ← number_under (2 ^ 32) word
  fault ← fault_in d
  Some (Reply.Fault fault word)

-- the want of memory, where the name is its own
abbrev pub no_memory_reply : Data → Option Reply
no_memory_reply d = name_in d >>= (λ name. if bytes_eq name (codes "NoMemory") then Some Reply.NoMemory else None)

-- the reply of a value, by the member that its kind has alone
unfoldable pub reply_of : Data → Option Reply
reply_of d =
    option_map_or (table_reply d) (get (codes "rows") d)
    (option_map_or (stat_reply d) (member_number d (codes "nodes"))
    (option_map_or (λ told. Some (Reply.Told told)) (member_number d (codes "told"))
    (option_map_or (fault_reply d) (member_number d (codes "at")) (no_memory_reply d))))

-- the reply of bytes: of the JSON value that they are, by RFC 8259 as `serde_json` reads it
unfoldable pub reply_in : List ℕ → Option Reply
reply_in bytes = if is_utf8 bytes then option_and_then reply_of (read bytes) else None
