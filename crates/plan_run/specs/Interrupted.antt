-- What the files of a run of a plan hold, whatever interrupted it, and what its report says of them.
use Rattle.std.specs.Prelude.{◌≡◌, ◌≢◌, ◌⊎◌, ℕ, ◌+◌, ◌<◌, ◌≤◌, Bool, true, false, List, [], All, length, map, take, count_by, Option, Some, None, Result, Ok, Err}
use Rattle.std.specs.FinMap.{get}
use Rattle.std.specs.List.{AllZip}
use Rattle.live_session.specs.Work.{last_number}
use Rattle.cube_schema.specs.declared.plan.Plan.{Plan}
use Rattle.cube_store.specs.Numbers.{OwnsAllButRoot}
use Rattle.cube_view.specs.Points.{Point}
use Rattle.cube_view.specs.declared.schema.Schema.{Schema}
use Rattle.feed_queue.specs.Journal.{journal_text}
use Rattle.feed_reader.specs.Feeds.{accepted, points_in, rows}
use Rattle.feed_reader.specs.RowCounts.{FeedRows}
use Rattle.live_session.specs.Turned.{seens_of}
use Rattle.outer_io.specs.Files.{Files, file_or_empty}
use Rattle.outer_io.specs.Lines.{input_limit, lines}
use Rattle.outer_io.specs.declared.cutter.CutFault.{CutFault}
use Rattle.outer_io.specs.declared.cutter.CutFault.TheVariants as cut
use Rattle.reply_json.specs.declared.reply.Reply.{Reply}
use Rattle.run_files.specs.Reports.{report_text}
use Rattle.run_files.specs.Stops.{is_lacking}
use Rattle.run_files.specs.declared.counts.ScriptCounts.{ScriptCounts}
use Rattle.run_files.specs.declared.stop.Stop.{Stop}
use Rattle.run_files.specs.declared.stop.Stop.TheVariants.{NoMemory, ReadFault}
use Rattle.session_core.specs.Asked.{asked}
use Rattle.session_core.specs.Scripts.{is_script_refused}
use Rattle.session_core.specs.Transcript.{IsTranscript, replies_text}
use Rattle.session_core.specs.declared.fault.SessionFault.{SessionFault}
use Rattle.session_core.specs.declared.fault.SessionFault.TheVariants as fault
use Rattle.world_core.specs.Interleaving.{IsInterleaving, entry_points, list_of}
use Rattle.world_core.specs.PairFact.{IsPrefix}
use Rattle.world_core.specs.declared.entry.Entry.{Entry}
use Rattle.plan_run.specs.Completed.{HasTranscript, output_of}

-- What a run reports
pub record Account : Type 0 where
  -- the rows that each feed gave, and the fault that ended it
  pub feeds : List FeedRows
  -- what is counted of each ask, and of each final
  pub asks : List ScriptCounts
  pub finals : List ScriptCounts
  -- whether the sessions were closed
  pub closed : Bool
  -- the journal's entries
  pub entries : List Entry
  -- those that were drawn, of which these are the first
  pub drawn : List Entry

-- the report that says so
abbrev pub account_text : Plan → Account → List ℕ
account_text plan account = report_text plan account.feeds account.asks account.finals account.closed (length account.entries)

-- a feed was ended by a read that failed
abbrev pub is_unread : Option CutFault → Bool
is_unread None = false
is_unread (Some cut.Read) = true
is_unread (Some cut.TooMuch) = false
is_unread (Some cut.NoMemory) = false

-- a session was
abbrev pub is_script_unread : Option SessionFault → Bool
is_script_unread None = false
is_script_unread (Some fault.Read) = true
is_script_unread (Some fault.Write) = false
is_script_unread (Some fault.TooMuch) = false
is_script_unread (Some fault.NoMemory) = false

-- a session was ended by a write that failed
abbrev pub IsUnwritten : ScriptCounts → Type 0
IsUnwritten script = script.fault ≡ Some fault.Write

-- how many lines of the report say `stopped: Read`
abbrev pub read_stops : Account → ℕ
read_stops account =
    count_by (λ (feed : FeedRows). is_unread feed.fault) account.feeds + count_by (λ (ask : ScriptCounts). is_script_unread ask.fault) account.asks + count_by (λ (final : ScriptCounts). is_script_unread final.fault) account.finals

-- the run ended by a read fault, or for want of memory
abbrev pub IsReadOrLacking : Result (Unit {0}) Stop → Type 0
IsReadOrLacking end = (end ≡ Err ReadFault) ⊎ (end ≡ Err NoMemory)

-- the records that a run of the plan may load, feed by feed
abbrev pub accepted_lists : Plan → Files → List (List Point)
accepted_lists plan files = map (λ name. accepted plan.schema (file_or_empty files name)) plan.feeds

-- The entries are an interleaving of prefixes of these lists
pub record InterleavesFronts (lists : List (List Point)) (entries : List Entry) : Type 0 where
  -- the prefix of the list of feeder f, from 1 on
  pub front : ℕ → List Point
  pub is_front : (f : ℕ) → 1 ≤ f → f ≤ length lists → IsPrefix (front f) (list_of lists f)
  -- they are an interleaving of those
  pub order : IsInterleaving (length lists) front entries

-- What a run that ended so says of the feed of that name
pub record ReportsFeed (schema : Schema) (end : Result (Unit {0}) Stop) (files : Files) (name : List ℕ) (feed : FeedRows) : Type 0 where
  -- its rows are a beginning of the file's
  pub begins : IsPrefix feed.rows (rows schema (file_or_empty files name))
  -- and all of them where neither a read fault nor want of memory ended it
  pub whole : feed.fault ≢ Some cut.Read → feed.fault ≢ Some cut.NoMemory → feed.rows ≡ rows schema (file_or_empty files name)
  -- `stopped: Read` comes only where the run ends so, or for want of memory
  pub read : feed.fault ≡ Some cut.Read → IsReadOrLacking end
  -- `stopped: TooMuch` only for a file of more than 2^30 bytes, and for each one that was read so far
  pub too_much : feed.fault ≡ Some cut.TooMuch → input_limit < length (file_or_empty files name)
  pub large : feed.fault ≢ Some cut.Read → feed.fault ≢ Some cut.NoMemory → input_limit < length (file_or_empty files name) → feed.fault ≡ Some cut.TooMuch
  -- `stopped: NoMemory` only where the run ends so
  pub no_memory : feed.fault ≡ Some cut.NoMemory → end ≡ Err NoMemory

-- Why a run that ended so, and whose sessions were closed or not, says that the script of that name was stopped
pub record StopsScript (schema : Schema) (closed : Bool) (end : Result (Unit {0}) Stop) (files : Files) (name : List ℕ) (script : ScriptCounts) : Type 0 where
  -- `stopped: Read` comes only where the run ends so, or for want of memory
  pub read : script.fault ≡ Some fault.Read → IsReadOrLacking end
  -- `stopped: TooMuch` only for a file of more than 2^30 bytes
  pub too_much : script.fault ≡ Some fault.TooMuch → input_limit < length (file_or_empty files name)
  -- and where the sessions were closed for each script that has no `quit` before that, and ran so far
  pub refused : closed ≡ true → script.fault ≢ Some fault.Read → script.fault ≢ Some fault.Write → script.fault ≢ Some fault.NoMemory → is_script_refused schema (file_or_empty files name) ≡ true → script.fault ≡ Some fault.TooMuch
  -- `stopped: NoMemory` only where the run ends so
  pub no_memory : script.fault ≡ Some fault.NoMemory → end ≡ Err NoMemory

module _ (schema : Schema) (final : Bool) (end : Result (Unit {0}) Stop) (account : Account) (files files' : Files) where
  -- What a run that ended so leaves of the script of that name, and says of it, where it gives this account
  pub record AnswersInFile (name : List ℕ) (script : ScriptCounts) : Type 0 where
    -- the replies to it
    pub replies : List Reply
    -- the points over which they are: the journal's where the sessions were closed, and else the first of those that
    -- were drawn
    pub points : List Point
    pub over : account.closed ≡ true → points ≡ entry_points account.entries
    pub within : IsPrefix points (entry_points account.drawn)
    -- where they were not closed a final put no reply
    pub unrun : account.closed ≡ false → final ≡ true → replies ≡ []
    -- they answer the first of what the script asks, over these points, by the line for want of memory only where the
    -- run ends so
    pub transcript : IsTranscript schema OwnsAllButRoot final points (length points) (is_lacking end) (take (length replies) (asked schema (lines (file_or_empty files name)))) replies
    -- its output holds them, or nothing where want of memory kept it from being given back
    pub text : (get files' (output_of name) ≡ Some (replies_text replies)) ⊎ ((end ≡ Err NoMemory) × (get files' (output_of name) ≡ Some []))
    -- the report says how many they are, and the last number of points seen that they print
    pub counted : (script.replies ≡ length replies) × (script.seen ≡ last_number (seens_of replies))
    -- where the sessions were closed they answer all, unless a read fault or want of memory ended the session
    pub all : account.closed ≡ true → script.fault ≢ Some fault.Read → script.fault ≢ Some fault.NoMemory → script.replies ≡ length (asked schema (lines (file_or_empty files name)))

-- Nothing is missing in the files of a run with these entries
pub record HoldsAll (plan : Plan) (entries : List Entry) (files files' : Files) : Type 0 where
  -- each feed's accepted records are among the entries, once each, in that feed's order, and nothing else is
  pub order : IsInterleaving (length plan.feeds) (list_of (accepted_lists plan files)) entries
  -- each ask's output holds a transcript for all that it asks, over the entries' points
  pub ask_replies : List (List Reply)
  pub asks : AllZip (HasTranscript plan.schema false (entry_points entries) files files') plan.asks ask_replies
  -- each final's a transcript in which every number of points is that of all entries
  pub final_replies : List (List Reply)
  pub finals : AllZip (HasTranscript plan.schema true (entry_points entries) files files') plan.finals final_replies

-- What the files of a run that ended so hold, whatever failed, of which it gives this account
pub record BeginsFiles (plan : Plan) (end : Result (Unit {0}) Stop) (account : Account) (files files' : Files) : Type 0 where
  -- the journal's file is a beginning of the text of the entries
  pub journal : (n : ℕ) × (get files' plan.journal ≡ Some (take n (journal_text plan.schema account.entries)))
  -- they are an interleaving of prefixes of the feeds' accepted records
  pub order : InterleavesFronts (accepted_lists plan files) account.entries
  -- and the first of those that were drawn, which are such an interleaving too
  pub first : IsPrefix account.entries account.drawn
  pub drawn_order : InterleavesFronts (accepted_lists plan files) account.drawn
  -- where memory was not wanted, of all the points among the rows that each feed gave
  pub drawn : end ≢ Err NoMemory → IsInterleaving (length plan.feeds) (list_of (map (λ (feed : FeedRows). points_in feed.rows) account.feeds)) account.entries
  -- of each feed the rows are a beginning of the file's, or all
  pub feeds : AllZip (ReportsFeed plan.schema end files) plan.feeds account.feeds
  -- a script is stopped only with its cause
  pub asks : AllZip (StopsScript plan.schema account.closed end files) plan.asks account.asks
  pub finals : AllZip (StopsScript plan.schema account.closed end files) plan.finals account.finals
  -- the sessions were closed unless memory was wanted
  pub closed : account.closed ≡ false → end ≡ Err NoMemory

-- What they hold where no write failed and the journal found memory
pub record HoldsFiles (plan : Plan) (end : Result (Unit {0}) Stop) (account : Account) (files files' : Files) : Type 0 where
  pub begins : BeginsFiles plan end account files files'
  -- the journal's file is the whole text
  pub journal : get files' plan.journal ≡ Some (journal_text plan.schema account.entries)
  -- each ask's output holds a transcript as the report counts it, over the entries' points where the sessions were
  -- closed, and else over the first of those that were drawn
  pub asks : AllZip (AnswersInFile plan.schema false end account files files') plan.asks account.asks
  -- each final's one in which every number of points is that of all of them, or none
  pub finals : AllZip (AnswersInFile plan.schema true end account files files') plan.finals account.finals
  -- `stopped: Write` does not come
  pub unbroken : All (λ (script : ScriptCounts). script.fault ≢ Some fault.Write) account.asks × All (λ (script : ScriptCounts). script.fault ≢ Some fault.Write) account.finals
  -- where neither memory was wanted nor a read failed, nothing is missing
  pub all : end ≢ Err NoMemory → end ≢ Err ReadFault → HoldsAll plan account.entries files files'
