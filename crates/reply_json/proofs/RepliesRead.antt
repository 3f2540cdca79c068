-- The text of a reply is read as that reply.
use Rattle.std.proofs.Common.{◌≡◌, ℕ, suc, ◌≤◌, List, [], ◌∷◌, map, Some, None, Option, option_and_then, Bool, true, false, cond, codes, refl, sym, ap, ◌∙◌, arith, lt-ltb}
use Rattle.std.specs.List.{All}
use Rattle.std.specs.Str.{IsUtf8, is_utf8, bytes_eq}
use Rattle.std.proofs.lemmas.Bool.{false≢true}
use Rattle.std.proofs.lemmas.Slice.Eq.{bytes_eq-Decides}
use Rattle.std.proofs.lemmas.Str.{is_utf8-from_IsUtf8, IsUtf8-from_is_utf8}
use Rattle.json.proofs.Printed.Utf8.{IsUtf8-are_ascii}
use Rattle.json.specs.Tree as tree
use Rattle.serde_json.specs.Data.{Data}
use Rattle.serde_json.specs.Read.{read, max_depth, of_json, of_items}
use Rattle.serde_json.specs.View.{items_of}
use Rattle.serde_json.specs.Written.{outline, items_outline}
use Rattle.serde_json.proofs.Numbers.{number_of-decimal}
use Rattle.query_syntax.specs.declared.fault.QueryFault.{QueryFault}
use Rattle.query_syntax.specs.declared.fault.QueryFault.TheVariants.{NotText, LongLine, BadQuote, UnknownVerb, MissingWord, BadNumber, OutOfRange, BadTile, TooDeep, UnknownCategory, UnknownValue, RepeatedFilter, UnknownFilter, TimeInSeries, InWithWindow, SameCategory}
use Rattle.query_syntax.specs.declared.table.RowOut.{RowOut}
use Rattle.reply_json.specs.declared.reply.Reply.{Reply}
use Rattle.reply_json.specs.Printed.{fault_name, row_value, reply_value, reply_text}
use Rattle.reply_json.specs.Reading.{row_in, rows_in, fault_named, reply_of, reply_in}
use Rattle.reply_json.specs.Meaning.{IsTextOf, IsNoReply}
use Rattle.reply_json.specs.Validity.{is_valid_reply}
use Rattle.reply_json.specs.Types.{RowFits, ReplyFits}
use Rattle.reply_json.proofs.TextsRead.{IsPlain, ArePlain, text_utf8, text_read}

first_of : (row : RowOut) (rows : List RowOut) → All RowFits (row ∷ rows) → RowFits row
first_of row rows all = all 0 row (omega arith)

others_of : (row : RowOut) (rows : List RowOut) → All RowFits (row ∷ rows) → All RowFits rows
others_of row rows all i d within = all (suc i) d (omega (arith, within))

-- ---- the values are plain

row_plain : (row : RowOut) → RowFits row → IsPlain (row_value row)
row_plain (RowOut.One total) h = (h, tt)
row_plain (RowOut.Value text total) h = (h.0, (h.1, tt))
row_plain (RowOut.Area tile total) h = (omega (arith, h.0), (omega (arith, h.1), (omega (arith, h.2), (h.3, tt))))
row_plain (RowOut.Bin start total) h = (h.0, (h.1, tt))
row_plain (RowOut.Pair first second total) h = (h.0, (h.1, (h.2, tt)))

rows_plain : (rows : List RowOut) → All RowFits rows → ArePlain (items_of (map row_value rows))
rows_plain [] all = tt
rows_plain (row ∷ rows) all = (row_plain row (first_of row rows all), rows_plain rows (others_of row rows all))

name_utf8 : (fault : QueryFault) → IsUtf8 (fault_name fault)
name_utf8 NotText = IsUtf8-are_ascii (codes "NotText") refl
name_utf8 LongLine = IsUtf8-are_ascii (codes "LongLine") refl
name_utf8 BadQuote = IsUtf8-are_ascii (codes "BadQuote") refl
name_utf8 UnknownVerb = IsUtf8-are_ascii (codes "UnknownVerb") refl
name_utf8 MissingWord = IsUtf8-are_ascii (codes "MissingWord") refl
name_utf8 BadNumber = IsUtf8-are_ascii (codes "BadNumber") refl
name_utf8 OutOfRange = IsUtf8-are_ascii (codes "OutOfRange") refl
name_utf8 BadTile = IsUtf8-are_ascii (codes "BadTile") refl
name_utf8 TooDeep = IsUtf8-are_ascii (codes "TooDeep") refl
name_utf8 UnknownCategory = IsUtf8-are_ascii (codes "UnknownCategory") refl
name_utf8 UnknownValue = IsUtf8-are_ascii (codes "UnknownValue") refl
name_utf8 RepeatedFilter = IsUtf8-are_ascii (codes "RepeatedFilter") refl
name_utf8 UnknownFilter = IsUtf8-are_ascii (codes "UnknownFilter") refl
name_utf8 TimeInSeries = IsUtf8-are_ascii (codes "TimeInSeries") refl
name_utf8 InWithWindow = IsUtf8-are_ascii (codes "InWithWindow") refl
name_utf8 SameCategory = IsUtf8-are_ascii (codes "SameCategory") refl

pub reply_plain : (reply : Reply) → ReplyFits reply → IsPlain (reply_value reply)
unfolding ReplyFits reply_value
reply_plain (Reply.Table table) h = (IsUtf8-are_ascii (codes "rows") refl, rows_plain table.rows h.0, (IsUtf8-are_ascii (codes "seen") refl, h.1, tt))
reply_plain (Reply.Stat stat seen) h = (
  IsUtf8-are_ascii (codes "nodes") refl,
  h.0,
  (
    IsUtf8-are_ascii (codes "proper") refl,
    h.2,
    (
      IsUtf8-are_ascii (codes "seen") refl,
      h.4,
      (IsUtf8-are_ascii (codes "shared") refl, h.3, (IsUtf8-are_ascii (codes "tables") refl, h.1, tt)),
    ),
  ),
)
reply_plain (Reply.Told told) h = (IsUtf8-are_ascii (codes "told") refl, h, tt)
reply_plain (Reply.Fault fault word) h = (IsUtf8-are_ascii (codes "at") refl, omega (arith, h), (IsUtf8-are_ascii (codes "fault") refl, name_utf8 fault, tt))
reply_plain Reply.NoMemory h = (IsUtf8-are_ascii (codes "fault") refl, IsUtf8-are_ascii (codes "NoMemory") refl, tt)

-- ---- their JSON is read as them

row_json : (row : RowOut) → RowFits row → of_json (outline (row_value row)) ≡ Some (row_value row)
row_json (RowOut.One total) h = rw (number_of-decimal total h) refl
row_json (RowOut.Value text total) h = rw (number_of-decimal total h.1) refl
row_json (RowOut.Area tile total) h =
    rw (number_of-decimal tile.z (omega (arith, h.0)), number_of-decimal tile.x (omega (arith, h.1)), number_of-decimal tile.y (omega (arith, h.2)), number_of-decimal total h.3) refl
row_json (RowOut.Bin start total) h = rw (number_of-decimal start h.0, number_of-decimal total h.1) refl
row_json (RowOut.Pair first second total) h = rw (number_of-decimal total h.2) refl

rows_json : (rows : List RowOut) → All RowFits rows → of_items (items_outline (items_of (map row_value rows))) ≡ Some (items_of (map row_value rows))
rows_json [] all = refl
rows_json (row ∷ rows) all = rw (row_json row (first_of row rows all), rows_json rows (others_of row rows all)) refl

reply_json : (reply : Reply) → ReplyFits reply → of_json (outline (reply_value reply)) ≡ Some (reply_value reply)
unfolding ReplyFits reply_value
reply_json (Reply.Table table) h = rw (rows_json table.rows h.0, number_of-decimal table.seen h.1) refl
reply_json (Reply.Stat stat seen) h =
    rw (number_of-decimal stat.nodes h.0, number_of-decimal stat.proper h.2, number_of-decimal seen h.4, number_of-decimal stat.shared h.3, number_of-decimal stat.tables h.1) refl
reply_json (Reply.Told told) h = rw (number_of-decimal told h) refl
reply_json (Reply.Fault fault word) h = rw (number_of-decimal word (omega (arith, h))) refl
reply_json Reply.NoMemory h = refl

-- ---- they do not nest deeply

row_flat : (row : RowOut) → tree.depth (outline (row_value row)) ≤ 1
row_flat (RowOut.One total) = omega arith
row_flat (RowOut.Value text total) = omega arith
row_flat (RowOut.Area tile total) = omega arith
row_flat (RowOut.Bin start total) = omega arith
row_flat (RowOut.Pair first second total) = omega arith

rows_flat : (rows : List RowOut) → tree.items_depth (items_outline (items_of (map row_value rows))) ≤ 1
rows_flat [] = omega arith
rows_flat (row ∷ rows) = omega (arith, row_flat row, rows_flat rows)

reply_shallow : (reply : Reply) → tree.depth (outline (reply_value reply)) ≤ max_depth
unfolding reply_value
reply_shallow (Reply.Table table) = omega (arith, rows_flat table.rows)
reply_shallow (Reply.Stat stat seen) = omega arith
reply_shallow (Reply.Told told) = omega arith
reply_shallow (Reply.Fault fault word) = omega arith
reply_shallow Reply.NoMemory = omega arith

-- ---- the replies taken out of the values are they

row_back : (row : RowOut) → RowFits row → row_in (row_value row) ≡ Some row
row_back (RowOut.One total) h = refl
row_back (RowOut.Value text total) h = refl
row_back (RowOut.Area tile total) h = rw (lt-ltb _ _ h.0, lt-ltb _ _ h.1, lt-ltb _ _ h.2) refl
row_back (RowOut.Bin start total) h = refl
row_back (RowOut.Pair first second total) h = refl

rows_back : (rows : List RowOut) → All RowFits rows → rows_in (items_of (map row_value rows)) ≡ Some rows
rows_back [] all = refl
rows_back (row ∷ rows) all = rw (row_back row (first_of row rows all), rows_back rows (others_of row rows all)) refl

name_back : (fault : QueryFault) → fault_named (fault_name fault) ≡ Some fault
name_back NotText = refl
name_back LongLine = refl
name_back BadQuote = refl
name_back UnknownVerb = refl
name_back MissingWord = refl
name_back BadNumber = refl
name_back OutOfRange = refl
name_back BadTile = refl
name_back TooDeep = refl
name_back UnknownCategory = refl
name_back UnknownValue = refl
name_back RepeatedFilter = refl
name_back UnknownFilter = refl
name_back TimeInSeries = refl
name_back InWithWindow = refl
name_back SameCategory = refl

reply_back : (reply : Reply) → ReplyFits reply → reply_of (reply_value reply) ≡ Some reply
unfolding ReplyFits reply_value reply_of
reply_back (Reply.Table table) h = rw (rows_back table.rows h.0) refl
reply_back (Reply.Stat stat seen) h = refl
reply_back (Reply.Told told) h = refl
reply_back (Reply.Fault fault word) h = rw (lt-ltb _ _ h, name_back fault) refl
reply_back Reply.NoMemory h = refl

-- the reply in the text of a reply
pub text_back : (reply : Reply) → ReplyFits reply → reply_in (reply_text reply) ≡ Some reply
unfolding reply_in reply_text
text_back reply h =
    let plain : IsPlain (reply_value reply) = reply_plain reply h in
    rw (is_utf8-from_IsUtf8 _ (text_utf8 (reply_value reply) plain), text_read (reply_value reply) plain (reply_shallow reply) (reply_json reply h)) (reply_back reply h)

-- ---- what the bytes of a reply are taken for

pub taken : (bytes : List ℕ) (d : Data) → IsUtf8 bytes → read bytes ≡ Some d → reply_in bytes ≡ reply_of d
unfolding reply_in
taken bytes d text reads = rw (is_utf8-from_IsUtf8 bytes text, reads) refl

pub none_taken : (bytes : List ℕ) → (IsUtf8 bytes → read bytes ≡ None) → reply_in bytes ≡ None
unfolding reply_in
none_taken bytes refused = here (is_utf8 bytes) refl
  where
    here : (b : Bool) → is_utf8 bytes ≡ b → cond b (option_and_then reply_of (read bytes)) None ≡ None
    here true is = ap (option_and_then reply_of) (refused (IsUtf8-from_is_utf8 bytes is))
    here false is = refl

-- an answer that is a reply
abbrev pub some_reply : Reply → Option Reply
some_reply reply = Some reply

-- a reply is told by the option that has it
pub one_reply : (a b : Reply) → some_reply a ≡ some_reply b → a ≡ b
one_reply a b e = cc

-- bytes are the text of no other reply than the one taken out of them
pub same_reply : (bytes : List ℕ) (reply other : Reply) → reply_in bytes ≡ Some reply → IsTextOf other bytes → other ≡ reply
same_reply bytes reply other is text = one_reply other reply (sym (text_back other text.1) ∙ ap reply_in (sym text.2) ∙ is)

not_both : (reply : Reply) → some_reply reply ≡ None → ⊥
not_both reply e = cc

-- bytes out of which no reply is taken are the text of none
pub none_is_none : (bytes : List ℕ) → reply_in bytes ≡ None → IsNoReply bytes
unfolding IsNoReply
none_is_none bytes is = λ other text. not_both other (sym (text_back other text.1) ∙ ap reply_in (sym text.2) ∙ is)

-- nor are bytes out of which one is taken that is not valid
pub invalid_is_none : (bytes : List ℕ) (reply : Reply) → reply_in bytes ≡ Some reply → is_valid_reply reply ≡ false → IsNoReply bytes
unfolding IsNoReply
invalid_is_none bytes reply is invalid = λ other text. false≢true (sym invalid ∙ ap is_valid_reply (sym (same_reply bytes reply other is text)) ∙ text.0)

-- nor are bytes that are not the text of the one taken
pub other_is_none : (bytes : List ℕ) (reply : Reply) → reply_in bytes ≡ Some reply → bytes_eq (reply_text reply) bytes ≡ false → IsNoReply bytes
unfolding IsNoReply
other_is_none bytes reply is differs = λ other text. false≢true (sym differs ∙ (bytes_eq-Decides (reply_text reply) bytes).1 (ap reply_text (sym (same_reply bytes reply other is text)) ∙ sym text.2))
