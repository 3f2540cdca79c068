-- When a journal, a script and the replies to it agree.
use Rattle.std.specs.Prelude.{◌≡◌, ℕ, ◌+◌, true, false, List, All, length}
use Rattle.cube_view.specs.Points.{Point}
use Rattle.cube_view.specs.declared.schema.Schema.{Schema}
use Rattle.cube_view.specs.declared.stat.Stat.{Stat}
use Rattle.feed_queue.specs.Journal.{journal_text, IsEntryOf}
use Rattle.outer_io.specs.Lines.{lines}
use Rattle.query_syntax.specs.declared.query.Parsed.{Parsed}
use Rattle.reply_json.specs.declared.reply.Reply.{Reply}
use Rattle.session_core.specs.Asked.{asked}
use Rattle.session_core.specs.Transcript.{Answers, IsTranscript, IsTranscriptText}
use Rattle.world_core.specs.Interleaving.{entry_points, IsInterleaving}
use Rattle.world_core.specs.declared.entry.Entry.{Entry}

-- The entries are those of a journal
pub record AreJournalEntries (schema : Schema) (feeders : ℕ) (entries : List Entry) : Type 0 where
  -- their points are valid for the schema
  pub valid : All (IsEntryOf schema) entries
  -- and they are an interleaving of lists of points, one for each feeder
  pub order : (lists : ℕ → List Point) × IsInterleaving feeders lists entries

-- the text is the journal of the entries
abbrev pub IsJournalOf : Schema → ℕ → List ℕ → List Entry → Type 0
IsJournalOf schema feeders journal entries = AreJournalEntries schema feeders entries × (journal ≡ journal_text schema entries)

-- the numbers are those of a cube, in which each slot but the root has one proper link to it
abbrev pub IsCubeStat : Stat → Type 0
IsCubeStat stat = stat.nodes + stat.tables ≡ stat.proper + 1

-- over the points of a journal
module _ (schema : Schema) (points : List Point) where
  -- what may be answered: the reply with the numbers of a cube, or the line for want of memory
  abbrev pub MayAnswer : Parsed → Reply → Type 0
  MayAnswer p reply = Answers schema IsCubeStat false points (length points) true p reply

  -- the replies are a transcript for what was asked
  abbrev pub AreAnswers : List Parsed → List Reply → Type 0
  AreAnswers ps replies = IsTranscript schema IsCubeStat false points (length points) true ps replies

-- The three texts agree: the first is the journal of entries, and the last the text of a transcript over their points
-- for all that the script asks
abbrev pub IsAgreement : Schema → ℕ → List ℕ → List ℕ → List ℕ → Type 0
IsAgreement schema feeders journal script text =
    (entries : List Entry) × IsJournalOf schema feeders journal entries
    × IsTranscriptText schema IsCubeStat false (entry_points entries) (length (entry_points entries)) true (asked schema (lines script)) text
