-- What is found at the first place at which the texts do not agree.
use Rattle.std.specs.Prelude.{◌≡◌, ◌≢◌, ℕ, ◌+◌, ◌≤◌, max, List, [], ◌∷◌, ◌++◌, length, take, drop, IsTrue}
use Rattle.cube_view.specs.Points.{Point}
use Rattle.cube_view.specs.declared.schema.Schema.{Schema}
use Rattle.feed_queue.specs.Journal.{entry_line, journal_text, IsEntryOf}
use Rattle.query_syntax.specs.declared.query.Parsed.{Parsed}
use Rattle.recount.specs.Agreement.{AreJournalEntries, MayAnswer, AreAnswers}
use Rattle.recount.specs.declared.verdict.Why.{Why}
use Rattle.recount.specs.declared.verdict.Why.TheVariants.{NotEntry, WrongNumber, TooFew, TooMany, NotReply, PastEnd, Fell, Wrong}
use Rattle.reply_json.specs.Types.{ReplyFits}
use Rattle.reply_json.specs.Validity.{is_valid_reply}
use Rattle.reply_json.specs.declared.reply.Reply.{Reply}
use Rattle.session_core.specs.Asked.{reply_line}
use Rattle.session_core.specs.Transcript.{seen_in, told_in, MayCome, replies_text}
use Rattle.world_core.specs.Interleaving.{entries_of}
use Rattle.world_core.specs.PairFact.{IsPrefix}
use Rattle.world_core.specs.declared.entry.Entry.{Entry}

-- what may come after these entries: one of a feeder, with the number of that feeder's entries before it
abbrev pub HasNextNumber : ℕ → List Entry → Entry → Type 0
HasNextNumber feeders before e = (e.feeder ≤ feeders) × (e.number ≡ length (entries_of e.feeder before))

-- the text begins with the line of the entry, which is one of the schema
abbrev pub BeginsWithEntry : Schema → List ℕ → Entry → Type 0
BeginsWithEntry schema text e = IsEntryOf schema e × IsPrefix (entry_line schema e) text

-- the first test that holds of what is left of a journal, after the lines of these entries
abbrev pub JournalFails : Schema → ℕ → List Entry → List ℕ → Why → Type 0
JournalFails schema feeders before rest NotEntry = (rest ≢ []) × ((e : Entry) → ¬ BeginsWithEntry schema rest e)
JournalFails schema feeders before rest WrongNumber = (e : Entry) × BeginsWithEntry schema rest e × ¬ HasNextNumber feeders before e
JournalFails schema feeders before rest why = ⊥

-- The first line of a journal at which a test holds
pub record JournalDiffers (schema : Schema) (feeders : ℕ) (journal : List ℕ) (line : ℕ) (why : Why) : Type 0 where
  -- the entries before it
  pub before : List Entry
  -- what is left of the text
  pub rest : List ℕ
  -- the lines before it are those of the entries
  pub front : journal ≡ journal_text schema before ++ rest
  -- which are the journal of some
  pub agrees : AreJournalEntries schema feeders before
  -- lines are numbered from 1 on
  pub counted : line ≡ length before + 1
  -- this holds of the next
  pub fails : JournalFails schema feeders before rest why

-- the reply can be printed
abbrev pub IsPrintableReply : Reply → Type 0
IsPrintableReply reply = IsTrue (is_valid_reply reply) × ReplyFits reply

-- the text begins with the line of the reply
abbrev pub BeginsWithReply : List ℕ → Reply → Type 0
BeginsWithReply text reply = IsPrintableReply reply × IsPrefix (reply_line reply) text

-- the greatest number of points that the replies print as seen, or this one where it is greater
abbrev pub most_seen : ℕ → List Reply → ℕ
most_seen seen [] = seen
most_seen seen (reply ∷ replies) = most_seen (max seen (seen_in reply)) replies

-- the greatest number of points that the replies print as told, or this one where it is greater
abbrev pub most_told : ℕ → List Reply → ℕ
most_told told [] = told
most_told told (reply ∷ replies) = most_told (max told (told_in reply)) replies

-- the reply prints numbers of points that are no greater than this one
abbrev pub StaysWithin : ℕ → Reply → Type 0
StaysWithin most reply = (seen_in reply ≤ most) × (told_in reply ≤ most)

-- over the points of a journal, after replies of which these are the greatest numbers of points seen and told
module _ (schema : Schema) (points : List Point) (seen told : ℕ) where
  -- the first test that holds of a reply to what was asked
  abbrev pub ReplyFails : Parsed → Reply → Why → Type 0
  ReplyFails p reply PastEnd = ¬ StaysWithin (length points) reply
  ReplyFails p reply Fell = StaysWithin (length points) reply × ¬ MayCome seen told reply
  ReplyFails p reply Wrong = StaysWithin (length points) reply × MayCome seen told reply × ¬ MayAnswer schema points p reply
  ReplyFails p reply why = ⊥

  -- the first test that holds of the next line, which should answer this
  abbrev pub LineFails : Parsed → List ℕ → Why → Type 0
  LineFails p rest NotReply = (reply : Reply) → ¬ BeginsWithReply rest reply
  LineFails p rest why = (reply : Reply) × BeginsWithReply rest reply × ReplyFails p reply why

  -- the first test that holds where this is left to answer, and this of the text
  abbrev pub RepliesFail : List Parsed → List ℕ → Why → Type 0
  RepliesFail [] [] why = ⊥
  RepliesFail (p ∷ ps) [] why = why ≡ TooFew
  RepliesFail [] (byte ∷ rest) why = why ≡ TooMany
  RepliesFail (p ∷ ps) (byte ∷ rest) why = LineFails p (byte ∷ rest) why

-- The first reply at which a test holds, over the points of a journal
pub record RepliesDiffer (schema : Schema) (points : List Point) (ps : List Parsed) (text : List ℕ) (place : ℕ) (why : Why) : Type 0 where
  -- the replies before it
  pub before : List Reply
  -- what is left of the text
  pub rest : List ℕ
  -- the lines before it are theirs
  pub front : text ≡ replies_text before ++ rest
  -- which answer the first of what was asked
  pub agrees : AreAnswers schema points (take (length before) ps) before
  -- replies are numbered from 1 on
  pub counted : place ≡ length before + 1
  -- this holds of the next
  pub fails : RepliesFail schema points (most_seen 0 before) (most_told 0 before) (drop (length before) ps) rest why
