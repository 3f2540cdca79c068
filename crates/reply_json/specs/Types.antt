-- The numbers and texts that the types of a reply hold. Every reply of a program is such: what is said of all such
-- replies is said of all replies.
use Rattle.std.specs.Prelude.{ℕ, ◌<◌, ◌^◌, ⊤}
use Rattle.std.specs.List.{All}
use Rattle.std.specs.Str.{IsUtf8}
use Rattle.query_syntax.specs.declared.table.RowOut.{RowOut}
use Rattle.reply_json.specs.declared.reply.Reply.{Reply}

-- a u64
abbrev pub IsCount : ℕ → Type 0
IsCount n = n < 2 ^ 64

-- a row of such numbers and texts
abbrev pub RowFits : RowOut → Type 0
RowFits (RowOut.One total) = IsCount total
RowFits (RowOut.Value text total) = IsUtf8 text × IsCount total
RowFits (RowOut.Area tile total) = (tile.z < 2 ^ 8) × (tile.x < 2 ^ 32) × (tile.y < 2 ^ 32) × IsCount total
RowFits (RowOut.Bin start total) = IsCount start × IsCount total
RowFits (RowOut.Pair first second total) = IsUtf8 first × IsUtf8 second × IsCount total

-- a reply of such numbers and texts
unfoldable pub ReplyFits : Reply → Type 0
ReplyFits (Reply.Table table) = All RowFits table.rows × IsCount table.seen
ReplyFits (Reply.Stat stat seen) = IsCount stat.nodes × IsCount stat.tables × IsCount stat.proper × IsCount stat.shared × IsCount seen
ReplyFits (Reply.Told told) = IsCount told
ReplyFits (Reply.Fault fault word) = word < 2 ^ 32
ReplyFits Reply.NoMemory = ⊤
