-- What the files and the output of a completed run of a plan hold.
use Rattle.std.specs.Prelude.{◌≡◌, ℕ, Bool, false, true, List, ◌++◌, All, codes, length, map, Option, Some, None}
use Rattle.std.specs.FinMap.{get}
use Rattle.std.specs.List.{AllZip}
use Rattle.live_session.specs.Work.{last_number}
use Rattle.cube_schema.specs.declared.plan.Plan.{Plan}
use Rattle.cube_store.specs.Numbers.{OwnsAllButRoot}
use Rattle.cube_view.specs.Points.{Point}
use Rattle.cube_view.specs.declared.schema.Schema.{Schema}
use Rattle.feed_queue.specs.Journal.{IsEntryOf, journal_text}
use Rattle.feed_reader.specs.Feeds.{accepted, is_feed_refused, rows}
use Rattle.feed_reader.specs.RowCounts.{FeedRows}
use Rattle.live_session.specs.Turned.{seens_of}
use Rattle.outer_io.specs.Bytes.{Gains}
use Rattle.outer_io.specs.Files.{Files, file_or_empty}
use Rattle.outer_io.specs.Lines.{lines}
use Rattle.reply_json.specs.declared.reply.Reply.{Reply}
use Rattle.run_files.specs.Reports.{report_text}
use Rattle.run_files.specs.declared.counts.ScriptCounts.{ScriptCounts}
use Rattle.session_core.specs.Asked.{asked}
use Rattle.session_core.specs.Scripts.{is_script_refused}
use Rattle.session_core.specs.Transcript.{IsTranscript, replies_text}
use Rattle.world_core.specs.Interleaving.{IsInterleaving, entry_points, list_of}
use Rattle.world_core.specs.declared.entry.Entry.{Entry}

-- the name of the file for the replies to the script of that name
abbrev pub output_of : List ℕ → List ℕ
output_of name = name ++ codes ".out"

-- all rows of a feed with these bytes, read to its end
abbrev pub whole_rows : Schema → List ℕ → FeedRows
whole_rows schema bytes = record { rows = rows schema bytes; fault = None }

-- what is reported of a session that put these replies, and was stopped by no fault
abbrev pub reply_counts : List Reply → ScriptCounts
reply_counts replies = record { replies = length replies; seen = last_number (seens_of replies); fault = None }

-- the replies to a script over a list of points, as files at entry and at exit have them
pub record HasTranscript (schema : Schema) (final : Bool) (points : List Point) (files files' : Files) (name : List ℕ) (replies : List Reply) : Type 0 where
  -- they answer all that the script asks, none by the line for want of memory; the numbers of `stat` are those of a
  -- cube
  pub transcript : IsTranscript schema OwnsAllButRoot final points (length points) false (asked schema (lines (file_or_empty files name))) replies
  -- and they are what its output holds
  pub text : get files' (output_of name) ≡ Some (replies_text replies)

-- What a completed run of the plan leaves, from the files at entry to the files at exit, and of what a sink held
pub record IsCompleted (plan : Plan) (files files' : Files) (held held' : Option (List ℕ)) : Type 0 where
  -- the journal holds these entries
  pub entries : List Entry
  pub journal : get files' plan.journal ≡ Some (journal_text plan.schema entries)
  -- they are entries of the schema, and no other list of such entries has that text
  pub valid : All (IsEntryOf plan.schema) entries
  pub only : (others : List Entry) → All (IsEntryOf plan.schema) others → journal_text plan.schema others ≡ journal_text plan.schema entries → others ≡ entries
  -- each feed's accepted records are among them, once each, in that feed's order, and nothing else is
  pub order : IsInterleaving (length plan.feeds) (list_of (map (λ name. accepted plan.schema (file_or_empty files name)) plan.feeds)) entries
  -- no feed is refused
  pub taken : All (λ name. is_feed_refused plan.schema (file_or_empty files name) ≡ false) plan.feeds
  -- and no script
  pub answered : All (λ name. is_script_refused plan.schema (file_or_empty files name) ≡ false) (plan.asks ++ plan.finals)
  -- each ask's output holds a transcript over the entries' points
  pub ask_replies : List (List Reply)
  pub asks : AllZip (HasTranscript plan.schema false (entry_points entries) files files') plan.asks ask_replies
  -- each final's a transcript in which every number of points is that of all entries
  pub final_replies : List (List Reply)
  pub finals : AllZip (HasTranscript plan.schema true (entry_points entries) files files') plan.finals final_replies
  -- the sink has gained the report of all rows of the feeds, of these replies and of the entries
  pub report : Gains held held' (report_text plan (map (λ name. whole_rows plan.schema (file_or_empty files name)) plan.feeds) (map reply_counts ask_replies) (map reply_counts final_replies) true (length entries))
