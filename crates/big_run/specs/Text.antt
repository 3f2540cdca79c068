-- What a large run writes: two lines of its report, and the replies over all records.
use Rattle.std.specs.Prelude.{ℕ, List, ◌++◌, codes, length, None}
use Rattle.std.specs.List.{filter_map}
use Rattle.cube_view.specs.Points.{Point}
use Rattle.cube_view.specs.declared.stat.Stat.{Stat}
use Rattle.feed_maker.specs.GeneratedFeed.{generated_feed}
use Rattle.feed_reader.specs.Feeds.{accepted, rows}
use Rattle.feed_reader.specs.RowCounts.{counts_of_rows}
use Rattle.outer_io.specs.Lines.{lines}
use Rattle.query_syntax.specs.declared.query.Parsed.{Parsed}
use Rattle.reply_json.specs.declared.reply.Reply.{Reply}
use Rattle.run_files.specs.Lines.{counts_line}
use Rattle.session_core.specs.Asked.{asked, asked_reply}
use Rattle.session_core.specs.Transcript.{replies_text}
use Rattle.big_run.specs.BuiltIn.{big_schema, final_script}

-- the report's line of a generated feed of so many rows from a state, under that name
unfoldable pub feed_line : List ℕ → ℕ → ℕ → List ℕ
feed_line name state count = counts_line name (counts_of_rows (record { rows = rows big_schema (generated_feed state count); fault = None }))

-- the accepted records of the first feed, and then those of the second
unfoldable pub big_points : ℕ → List Point
big_points count = accepted big_schema (generated_feed 1 count) ++ accepted big_schema (generated_feed 2 count)

-- what the lines of the final script ask
unfoldable pub final_asked : List Parsed
final_asked = asked big_schema (lines final_script)

-- none of them asks for the numbers of a structure
abbrev pub no_stat : Stat
no_stat = record { nodes = 0; tables = 0; proper = 0; shared = 0 }

-- the replies to them over a list of points, each of which was told
unfoldable pub final_replies : List Point → List Reply
final_replies h = filter_map (asked_reply no_stat big_schema h (length h)) final_asked

-- the text of a large run with feeds of so many rows
unfoldable pub big_text : ℕ → List ℕ
big_text count = feed_line (codes "gen1") 1 count ++ feed_line (codes "gen2") 2 count ++ replies_text (final_replies (big_points count))
