-- What the bytes of a feed mean: its header, the rows after it, and the points among them.
use Rattle.std.specs.Prelude.{ℕ, Bool, not, ◌||◌, nat_lt, List, [], ◌∷◌, map, drop, length, Result, Ok, Err, is_ok}
use Rattle.cube_view.specs.declared.spot.Point.{Point}
use Rattle.cube_view.specs.declared.schema.Schema.{Schema}
use Rattle.outer_io.specs.Lines.{Line, Bytes, Long, input_limit, lines}
use Rattle.feed_reader.specs.Headers.{head_of}
use Rattle.feed_reader.specs.Rows.{row_of_line}
use Rattle.feed_reader.specs.declared.header.HeadFault.{HeadFault}
use Rattle.feed_reader.specs.declared.header.HeadFault.TheVariants as head
use Rattle.feed_reader.specs.declared.row.Row.{Row}
use Rattle.feed_reader.specs.declared.row.Row.TheVariants as row

-- what the first of these lines means as a header; no line and a long one are none
abbrev pub head_of_lines : Schema → List Line → Result (List ℕ) HeadFault
head_of_lines schema [] = Err head.BadRow
head_of_lines schema (Bytes line ∷ rest) = head_of schema line
head_of_lines schema (Long ∷ rest) = Err head.BadRow

-- what the rows after the header are, which are none where it is refused
abbrev pub rows_under : Schema → Result (List ℕ) HeadFault → List Line → List Row
rows_under schema (Ok places) rest = map (row_of_line schema places) rest
rows_under schema (Err f) rest = []

-- the points among the rows, in order
abbrev pub points_in : List Row → List Point
points_in [] = []
points_in (row.Blank ∷ rest) = points_in rest
points_in (row.Point p ∷ rest) = p ∷ points_in rest
points_in (row.Refused f ∷ rest) = points_in rest

-- the header of a feed with these bytes
unfoldable pub feed_head : Schema → List ℕ → Result (List ℕ) HeadFault
feed_head schema bytes = head_of_lines schema (lines bytes)

-- the meanings of its lines after the first
unfoldable pub rows : Schema → List ℕ → List Row
rows schema bytes = rows_under schema (feed_head schema bytes) (drop 1 (lines bytes))

-- the records that a cube takes from it, in order
unfoldable pub accepted : Schema → List ℕ → List Point
accepted schema bytes = points_in (rows schema bytes)

-- the feed is refused: its first line is no header, or it has more than 2^30 bytes
unfoldable pub is_feed_refused : Schema → List ℕ → Bool
is_feed_refused schema feed = not (is_ok (feed_head schema feed)) || nat_lt input_limit (length feed)
