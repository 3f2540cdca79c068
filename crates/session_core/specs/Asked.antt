-- What a line of a script asks, and the reply to it over a list of points.
use Rattle.std.specs.Prelude.{ℕ, Bool, true, false, not, if◌then◌else◌, List, [], ◌∷◌, ◌++◌, length, Option, Some, None}
use Rattle.cube_view.specs.declared.spot.Point.{Point}
use Rattle.cube_view.specs.declared.schema.Schema.{Schema}
use Rattle.cube_view.specs.declared.stat.Stat.{Stat}
use Rattle.outer_io.specs.Lines.{Line, Bytes, Long}
use Rattle.query_syntax.specs.Meaning.{meaning}
use Rattle.query_syntax.specs.Tables.{table}
use Rattle.query_syntax.specs.declared.fault.QueryFault.TheVariants.{LongLine}
use Rattle.query_syntax.specs.declared.query.Parsed.{Parsed}
use Rattle.query_syntax.specs.declared.query.Parsed.TheVariants.{Skip, Ask, Fault}
use Rattle.query_syntax.specs.declared.query.Query.{Query}
use Rattle.query_syntax.specs.declared.query.Verb.{Verb}
use Rattle.query_syntax.specs.declared.query.Verb.TheVariants as verb
use Rattle.reply_json.specs.declared.reply.Reply.{Reply}
use Rattle.reply_json.specs.Printed.{reply_text}

-- what a line of a script means; a long one is a fault at its first word
abbrev pub line_meaning : Schema → Line → Parsed
line_meaning schema (Bytes line) = meaning schema line
line_meaning schema Long = Fault LongLine 1

-- where the structure has these numbers, and so many records were told
module _ (stat : Stat) (schema : Schema) (h : List Point) (told : ℕ) where
  -- the reply to a query of a verb; none to `quit`
  abbrev pub query_reply : Query → Verb → Option Reply
  query_reply q verb.Stat = Some (Reply.Stat stat (length h))
  query_reply q verb.Told = Some (Reply.Told told)
  query_reply q verb.Quit = None
  query_reply q other = Some (Reply.Table (table schema q h))

  -- the reply to what a line means; none to a line that asks nothing
  abbrev pub asked_reply : Parsed → Option Reply
  asked_reply Skip = None
  asked_reply (Ask q) = query_reply q q.verb
  asked_reply (Fault fault word) = Some (Reply.Fault fault word)

-- the line of a reply, with its line feed
unfoldable pub reply_line : Reply → List ℕ
reply_line reply = reply_text reply ++ 10 ∷ []

-- the verb ends the session
abbrev pub ends : Verb → Bool
ends verb.Quit = true
ends other = false

-- the line asks to end the session
abbrev pub asks_to_end : Parsed → Bool
asks_to_end Skip = false
asks_to_end (Ask q) = ends q.verb
asks_to_end (Fault fault word) = false

-- the line asks for a reply
abbrev pub asks_reply : Parsed → Bool
asks_reply Skip = false
asks_reply (Ask q) = not (ends q.verb)
asks_reply (Fault fault word) = true

-- the verb asks for what a look at the view shows: a table, or the structure's numbers
abbrev pub is_look : Verb → Bool
is_look verb.Told = false
is_look verb.Quit = false
is_look other = true

-- the line asks for a look at the view
abbrev pub asks_look : Parsed → Bool
asks_look Skip = false
asks_look (Ask q) = is_look q.verb
asks_look (Fault fault word) = false

-- what a line asks, and then what those after it ask
abbrev pub asked_then : Parsed → List Parsed → List Parsed
asked_then Skip later = later
asked_then (Ask q) later = if ends q.verb then [] else (Ask q ∷ later)
asked_then (Fault fault word) later = Fault fault word ∷ later

-- what the lines of a script ask: their meanings up to the first `quit`, without those that ask nothing
abbrev pub asked : Schema → List Line → List Parsed
asked schema [] = []
asked schema (line ∷ lines) = asked_then (line_meaning schema line) (asked schema lines)
