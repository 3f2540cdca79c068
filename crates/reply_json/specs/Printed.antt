-- The text of a reply: the compact JSON of an object, members in byte order of their names. And which numbers of points
-- it prints.
use Rattle.std.specs.Prelude.{ℕ, List, [], ◌∷◌, codes, map, Option, Some, None}
use Rattle.serde_json.specs.Data.{Data, number, unsigned, string, array, object, Members, no_members, member}
use Rattle.serde_json.specs.View.{items_of}
use Rattle.serde_json.specs.Written.{compact_text}
use Rattle.query_syntax.specs.declared.fault.QueryFault.{QueryFault}
use Rattle.query_syntax.specs.declared.fault.QueryFault.TheVariants.{NotText, LongLine, BadQuote, UnknownVerb, MissingWord, BadNumber, OutOfRange, BadTile, TooDeep, UnknownCategory, UnknownValue, RepeatedFilter, UnknownFilter, TimeInSeries, InWithWindow, SameCategory}
use Rattle.query_syntax.specs.declared.table.RowOut.{RowOut}
use Rattle.reply_json.specs.declared.reply.Reply.{Reply}

-- a number
abbrev pub count_value : ℕ → Data
count_value n = number (unsigned n)

-- the name of a fault
abbrev pub fault_name : QueryFault → List ℕ
fault_name NotText = codes "NotText"
fault_name LongLine = codes "LongLine"
fault_name BadQuote = codes "BadQuote"
fault_name UnknownVerb = codes "UnknownVerb"
fault_name MissingWord = codes "MissingWord"
fault_name BadNumber = codes "BadNumber"
fault_name OutOfRange = codes "OutOfRange"
fault_name BadTile = codes "BadTile"
fault_name TooDeep = codes "TooDeep"
fault_name UnknownCategory = codes "UnknownCategory"
fault_name UnknownValue = codes "UnknownValue"
fault_name RepeatedFilter = codes "RepeatedFilter"
fault_name UnknownFilter = codes "UnknownFilter"
fault_name TimeInSeries = codes "TimeInSeries"
fault_name InWithWindow = codes "InWithWindow"
fault_name SameCategory = codes "SameCategory"

-- a row: its total alone, or after the value, after z, x and y of the tile, after the first bin, or after two values
abbrev pub row_items : RowOut → List Data
row_items (RowOut.One total) = count_value total ∷ []
row_items (RowOut.Value text total) = string text ∷ count_value total ∷ []
row_items (RowOut.Area tile total) = count_value tile.z ∷ count_value tile.x ∷ count_value tile.y ∷ count_value total ∷ []
row_items (RowOut.Bin start total) = count_value start ∷ count_value total ∷ []
row_items (RowOut.Pair first second total) = string first ∷ string second ∷ count_value total ∷ []

-- a row as an array
abbrev pub row_value : RowOut → Data
row_value row = array (items_of (row_items row))

-- rows as an array
abbrev pub rows_value : List RowOut → Data
rows_value rows = array (items_of (map row_value rows))

-- the members of a reply's object
abbrev pub reply_members : Reply → Members
reply_members (Reply.Table table) = member (codes "rows") (rows_value table.rows) (member (codes "seen") (count_value table.seen) no_members)
reply_members (Reply.Stat stat seen) =
    member (codes "nodes") (count_value stat.nodes)
    (member (codes "proper") (count_value stat.proper)
    (member (codes "seen") (count_value seen)
    (member (codes "shared") (count_value stat.shared)
    (member (codes "tables") (count_value stat.tables) no_members))))
reply_members (Reply.Told told) = member (codes "told") (count_value told) no_members
reply_members (Reply.Fault fault word) = member (codes "at") (count_value word) (member (codes "fault") (string (fault_name fault)) no_members)
reply_members Reply.NoMemory = member (codes "fault") (string (codes "NoMemory")) no_members

-- a reply as an object
unfoldable pub reply_value : Reply → Data
reply_value reply = object (reply_members reply)

-- the text of a reply
unfoldable pub reply_text : Reply → List ℕ
reply_text reply = compact_text (reply_value reply)

-- how many points a reply has seen, where it prints that
abbrev pub seen_of : Reply → Option ℕ
seen_of (Reply.Table table) = Some table.seen
seen_of (Reply.Stat stat seen) = Some seen
seen_of (Reply.Told told) = None
seen_of (Reply.Fault fault word) = None
seen_of Reply.NoMemory = None

-- how many points were told, where it prints that
abbrev pub told_of : Reply → Option ℕ
told_of (Reply.Table table) = None
told_of (Reply.Stat stat seen) = None
told_of (Reply.Told told) = Some told
told_of (Reply.Fault fault word) = None
told_of Reply.NoMemory = None
