-- Numbers that no reply of a program holds.
use Rattle.std.specs.Prelude.{◌≡◌, ℕ, ◌^◌, Bool, true, false, ◌||◌, nat_le, List, Option, IsSomeAnd}
use Rattle.std.specs.List.{list_any}
use Rattle.cross_table.specs.Ranking.{total_of_row}
use Rattle.query_syntax.specs.declared.table.RowOut.{RowOut}
use Rattle.reply_json.specs.declared.reply.Reply.{Reply}

-- the number is 2^64 or more
abbrev pub is_too_great : ℕ → Bool
is_too_great n = nat_le (2 ^ 64) n

-- the row's total is
abbrev pub is_row_great : RowOut → Bool
is_row_great row = is_too_great (total_of_row row)

-- the total of one of the rows is
abbrev pub are_rows_great : List RowOut → Bool
are_rows_great rows = list_any is_row_great rows

-- the rows are there, and the total of one of them is
abbrev pub AreGreat : Option (List RowOut) → Type 0
AreGreat sums = IsSomeAnd sums (λ rows. are_rows_great rows ≡ true)

-- a total of the reply, or its number of points, is
abbrev pub is_reply_great : Reply → Bool
is_reply_great (Reply.Table table) = are_rows_great table.rows || is_too_great table.seen
is_reply_great (Reply.Stat stat seen) = false
is_reply_great (Reply.Told told) = is_too_great told
is_reply_great (Reply.Fault fault word) = false
is_reply_great Reply.NoMemory = false

-- the reply is there, and one of these numbers is
abbrev pub IsGreat : Option Reply → Type 0
IsGreat sum = IsSomeAnd sum (λ reply. is_reply_great reply ≡ true)
