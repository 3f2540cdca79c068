-- Which replies are valid: the rows of a table are of one kind, and a total alone is its only row.
use Rattle.std.specs.Prelude.{Bool, true, false, ◌||◌, List, [], ◌∷◌}
use Rattle.std.specs.List.{list_all}
use Rattle.query_syntax.specs.declared.table.RowOut.{RowOut}
use Rattle.reply_json.specs.declared.reply.Reply.{Reply}

-- the rows are one total alone
abbrev pub is_one_total : List RowOut → Bool
is_one_total [] = false
is_one_total (RowOut.One total ∷ []) = true
is_one_total (row ∷ rows) = false

-- the row is the total of a value of a category
abbrev pub is_value_row : RowOut → Bool
is_value_row (RowOut.One total) = false
is_value_row (RowOut.Value text total) = true
is_value_row (RowOut.Area tile total) = false
is_value_row (RowOut.Bin start total) = false
is_value_row (RowOut.Pair first second total) = false

-- the row is the total of a tile
abbrev pub is_area_row : RowOut → Bool
is_area_row (RowOut.One total) = false
is_area_row (RowOut.Value text total) = false
is_area_row (RowOut.Area tile total) = true
is_area_row (RowOut.Bin start total) = false
is_area_row (RowOut.Pair first second total) = false

-- the row is the total of some bins
abbrev pub is_bin_row : RowOut → Bool
is_bin_row (RowOut.One total) = false
is_bin_row (RowOut.Value text total) = false
is_bin_row (RowOut.Area tile total) = false
is_bin_row (RowOut.Bin start total) = true
is_bin_row (RowOut.Pair first second total) = false

-- the row is the total of two values of two categories
abbrev pub is_pair_row : RowOut → Bool
is_pair_row (RowOut.One total) = false
is_pair_row (RowOut.Value text total) = false
is_pair_row (RowOut.Area tile total) = false
is_pair_row (RowOut.Bin start total) = false
is_pair_row (RowOut.Pair first second total) = true

-- the rows are one total alone, or all of another kind
abbrev pub are_valid_rows : List RowOut → Bool
are_valid_rows rows = is_one_total rows || list_all is_value_row rows || list_all is_area_row rows || list_all is_bin_row rows || list_all is_pair_row rows

-- the reply can be printed
unfoldable pub is_valid_reply : Reply → Bool
is_valid_reply (Reply.Table table) = are_valid_rows table.rows
is_valid_reply (Reply.Stat stat seen) = true
is_valid_reply (Reply.Told told) = true
is_valid_reply (Reply.Fault fault word) = true
is_valid_reply Reply.NoMemory = true
