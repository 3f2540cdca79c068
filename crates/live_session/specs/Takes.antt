-- How often the mailbox is asked for a session's replies, as a statement.
use Rattle.std.specs.Prelude.{ℕ, ◌≤◌, Bool, true, false, List, count_by}
use Rattle.cube_view.specs.Points.{Point}
use Rattle.cube_view.specs.declared.schema.Schema.{Schema}
use Rattle.cube_view.specs.declared.stat.Stat.{Stat}
use Rattle.live_session.specs.News.{takes_after}
use Rattle.outer_io.specs.Faults.{RoseBy}
use Rattle.texts.specs.Counts.{last_count}
use Rattle.outer_io.specs.Lines.{Line}
use Rattle.reply_json.specs.declared.reply.Reply.{Reply}
use Rattle.session_core.specs.Asked.{asked}
use Rattle.session_core.specs.Transcript.{IsTranscript}

-- the reply is to `told`, a table line or `stat`, and is not the line for want of memory
abbrev pub prints_number : Reply → Bool
prints_number (Reply.Table table) = true
prints_number (Reply.Stat stat seen) = true
prints_number (Reply.Told told) = true
prints_number reply = false

-- answering lines asks the mailbox at least once for each such reply of their transcript
abbrev pub AsksForNumbers : (Stat → Type 0) → Type 0
AsksForNumbers is_stat = (schema : Schema) (final may_lack : Bool) (l : List Point) (u : ℕ) (lines : List Line) (replies : List Reply) (taken : ℕ) → taken ≤ last_count
    → IsTranscript schema is_stat final l u may_lack (asked schema lines) replies → RoseBy (count_by prints_number replies) taken (takes_after schema lines taken)
