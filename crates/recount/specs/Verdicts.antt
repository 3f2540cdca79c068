-- Which verdict three texts have.
use Rattle.std.specs.Prelude.{◌≡◌, ℕ, List, length}
use Rattle.cube_view.specs.declared.schema.Schema.{Schema}
use Rattle.outer_io.specs.Lines.{lines}
use Rattle.query_syntax.specs.declared.query.Parsed.{Parsed}
use Rattle.recount.specs.Agreement.{IsJournalOf, AreAnswers}
use Rattle.recount.specs.Faults.{JournalDiffers, RepliesDiffer}
use Rattle.recount.specs.declared.verdict.Verdict.{Verdict}
use Rattle.recount.specs.declared.verdict.Verdict.TheVariants as verdict
use Rattle.recount.specs.Counting.{count_lacking}
use Rattle.reply_json.specs.declared.reply.Reply.{Reply}
use Rattle.session_core.specs.Asked.{asked}
use Rattle.session_core.specs.Transcript.{replies_text}
use Rattle.world_core.specs.Interleaving.{entry_points}
use Rattle.world_core.specs.declared.entry.Entry.{Entry}
use Rattle.cube_view.specs.Points.{Point}

-- The replies of a text agree with what was asked, over the points of a journal
pub record RepliesAgree (schema : Schema) (points : List Point) (ps : List Parsed) (bytes : List ℕ) (number without : ℕ) : Type 0 where
  -- the replies
  pub replies : List Reply
  -- they answer it
  pub answers : AreAnswers schema points ps replies
  -- and the text is theirs
  pub text : bytes ≡ replies_text replies
  -- so many they are
  pub counted : number ≡ length replies
  -- of which so many are the line for want of memory
  pub lacked : without ≡ count_lacking replies

-- what the replies of a text have as their verdict, over the points of a journal
abbrev pub HasReplyVerdict : Schema → List Point → List Parsed → List ℕ → Verdict → Type 0
HasReplyVerdict schema points ps text (verdict.Agree replies without) = RepliesAgree schema points ps text replies without
HasReplyVerdict schema points ps text (verdict.Journal line why) = ⊥
HasReplyVerdict schema points ps text (verdict.Replies place why) = RepliesDiffer schema points ps text place why

-- the first line of the journal at which a test holds decides; where there is none, the replies do
abbrev pub HasVerdict : Schema → ℕ → List ℕ → List ℕ → List ℕ → Verdict → Type 0
HasVerdict schema feeders journal script text (verdict.Journal line why) = JournalDiffers schema feeders journal line why
HasVerdict schema feeders journal script text v =
    (entries : List Entry) × IsJournalOf schema feeders journal entries × HasReplyVerdict schema (entry_points entries) (asked schema (lines script)) text v

-- the verdict says that the texts agree
abbrev pub IsAgree : Verdict → Type 0
IsAgree (verdict.Agree replies without) = Unit {0}
IsAgree (verdict.Journal line why) = ⊥
IsAgree (verdict.Replies place why) = ⊥
