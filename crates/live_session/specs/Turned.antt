-- What a turn of a session does.
use Rattle.std.specs.Prelude.{◌≡◌, ◌≢◌, ℕ, ◌+◌, ◌≤◌, ◌⊎◌, Bool, true, false, ◌||◌, List, [], ◌∷◌, ◌++◌, length, Option, Some, None, Result, Err, IfOk, OnErr, IsErrOf}
use Rattle.std.specs.List.{flat_map}
use Rattle.cube_view.specs.declared.schema.Schema.{Schema}
use Rattle.cube_view.specs.declared.stat.Stat.{Stat}
use Rattle.cube_view.specs.declared.view.CubeView as CubeView
use Rattle.live_session.specs.News.{HasNews, News, NewsFor}
use Rattle.live_session.specs.Saying.{IsShownTo}
use Rattle.live_session.specs.State.{SessionEnds, SessionState}
use Rattle.live_session.specs.declared.turn.Turn.{Turn}
use Rattle.live_session.specs.declared.turn.Turn.TheVariants as turn
use Rattle.outer_io.specs.Bytes.{Gains, GainsPart}
use Rattle.outer_io.specs.Cuts.{IsTooMuch}
use Rattle.outer_io.specs.Cutting.{lines_left}
use Rattle.outer_io.specs.Faults.{HasCause}
use Rattle.outer_io.specs.Lines.{Line, input_limit}
use Rattle.outer_io.specs.Progress.{Passes, PassesAll}
use Rattle.outer_io.specs.Told.{Told}
use Rattle.published_pair.specs.declared.viewer.Viewer.{Viewer}
use Rattle.query_syntax.specs.declared.query.Parsed.{Parsed}
use Rattle.query_syntax.specs.declared.query.Parsed.TheVariants.{Skip}
use Rattle.reply_json.specs.Printed.{seen_of}
use Rattle.reply_json.specs.declared.reply.Reply.{Reply}
use Rattle.session_core.specs.Asked.{asked, line_meaning, reply_line}
use Rattle.session_core.specs.Scripts.{is_quit}
use Rattle.session_core.specs.Transcript.{has_lack, is_lack, IsTranscript, NeverFalls, replies_text}
use Rattle.session_core.specs.declared.fault.SessionFault.{SessionFault}
use Rattle.session_core.specs.declared.fault.SessionFault.TheVariants as fault

-- the number, if there is one
abbrev pub listed : Option ℕ → List ℕ
listed None = []
listed (Some n) = n ∷ []

-- the numbers of points seen that replies print, in order
abbrev pub seens_of : List Reply → List ℕ
seens_of replies = flat_map (λ reply. listed (seen_of reply)) replies

-- the fault is want of memory
abbrev pub is_no_memory : SessionFault → Bool
is_no_memory fault.NoMemory = true
is_no_memory f = false

-- Replies that are the next of a session that had been shown and told `a`, and is shown and told `b` for them
pub record AreNext (schema : Schema) (is_stat : Stat → Type 0) (a b : News) (may_lack : Bool) (asked : List Parsed) (replies : List Reply) : Type 0 where
  -- by themselves they are a transcript, in which each number is all that is shown or told now
  pub transcript : IsTranscript schema is_stat true b.shown (length b.told) may_lack asked replies
  -- none falls below what was shown and told before
  pub follows : NeverFalls (length a.shown) (length a.told) replies

-- What putting these replies leaves
pub record HasPut {I O : Type 0} (held : O → Option (List ℕ)) (before after : SessionState I O) (replies : List Reply) : Type 0 where
  -- the sink gained their text
  pub gained : Gains (held before.sink) (held after.sink) (replies_text replies)
  -- they are counted
  pub counted : after.replies ≡ before.replies + length replies
  -- the numbers of points seen that they print are noted
  pub noted : after.seens ≡ before.seens ++ seens_of replies
  -- the line for want of memory is noted
  pub lacks : after.lacked ≡ before.lacked || has_lack replies

-- a turn of a session under the schema
module _ {I O : Type 0} (ends : SessionEnds I O) (schema : Schema) (before after : SessionState I O) where
  -- the session is at its end: it was, or no line is left of its script, or the line that it read is `quit`
  abbrev pub ComesToEnd : List Line → Type 0
  ComesToEnd lines =
      ((before.ended ≡ true) × (after ≡ before) × (lines ≡ []))
      ⊎ (PassesAll ends.left ends.faults before.source after.source [] × (lines ≡ []))
      ⊎ ((line : Line) × (lines ≡ line ∷ []) × (is_quit schema line ≡ true))

  -- what the answer of a turn tells of the lines that it read and of its replies
  abbrev pub IsTurn : List Line → List Reply → Turn → Type 0
  IsTurn lines replies turn.Skipped = (line : Line) × (lines ≡ line ∷ []) × (line_meaning schema line ≡ Skip) × (replies ≡ []) × (after.ended ≡ false)
  IsTurn lines replies turn.Replied = (line : Line) × (reply : Reply) × (lines ≡ line ∷ []) × (replies ≡ reply ∷ []) × (is_quit schema line ≡ false) × (after.ended ≡ false)
  IsTurn lines replies turn.Ended = (after.ended ≡ true) × (replies ≡ []) × ComesToEnd lines

-- a turn of a session that had been shown and told `a`, and is shown and told `b` after it
module _ {I O : Type 0} (ends : SessionEnds I O) (schema : Schema) (is_stat : Stat → Type 0) (a b : News) (before after : SessionState I O) where
  -- what a turn without a fault does
  pub record Turned (turn : Turn) : Type 0 where
    -- the lines that it read: one, or none at the end
    pub lines : List Line
    -- the replies to them: one, or none
    pub replies : List Reply
    -- they are the next lines of the script
    pub read : Told (lines_left ends.left before.source) (λ all. (later : List Line) × (all ≡ lines ++ later))
    -- and so many lines were read
    pub given : after.source.given ≡ before.source.given + length lines
    -- where the session goes on, its script has gone on over them, and is within its limit
    pub passed : after.ended ≡ false → Passes ends.left ends.faults before.source after.source lines × (after.source.given ≤ input_limit)
    -- the viewer and the mailbox were asked what the lines ask
    pub news : NewsFor schema lines a b
    -- the replies are to what the lines ask, over the list and the told length as they are now
    pub next : AreNext schema is_stat a b after.lacked (asked schema lines) replies
    -- they were put
    pub put : HasPut ends.held before after replies
    -- the answer is as it says
    pub answer : IsTurn ends schema before after lines replies turn

  -- what a turn does whose put fails
  pub record BreaksOff : Type 0 where
    -- the line that it read
    pub line : Line
    -- the reply to it
    pub reply : Reply
    -- it goes on after that line
    pub passed : Passes ends.left ends.faults before.source after.source (line ∷ [])
    -- which is one line more
    pub given : after.source.given ≡ before.source.given + 1
    -- the line is no `quit`
    pub no_quit : is_quit schema line ≡ false
    -- the viewer and the mailbox were asked what the line asks
    pub news : HasNews (line_meaning schema line) a b
    -- the reply is to what the line asks
    pub next : AreNext schema is_stat a b after.lacked (asked schema (line ∷ [])) (reply ∷ [])
    -- the sink gained a part of its line, from the front
    pub gained : GainsPart (ends.held before.sink) (ends.held after.sink) (reply_line reply)
    -- it is not counted, and its number is not noted
    pub uncounted : (after.replies ≡ before.replies) × (after.seens ≡ before.seens)
    -- whether it is the line for want of memory is noted
    pub lacks : after.lacked ≡ before.lacked || is_lack reply

-- What a turn of a session under the schema does, which had been shown and told `a`, and is `b` after it, with this
-- viewer
pub record HasTurned {I O V C : Type 0} {members : CubeView.Ghosts V C} (ends : SessionEnds I O) (viewer : Viewer V C members) (schema : Schema) (a b : News) (before after : SessionState I O) (result : Result Turn SessionFault) : Type 0 where
  -- without a fault
  pub turned : IfOk result (Turned ends schema (IsShownTo viewer) a b before after)
  -- where its put fails
  pub broken : IsErrOf result fault.Write → BreaksOff ends schema (IsShownTo viewer) a b before after

-- When the faults of a turn come, and what they leave
pub record HasFaults {I O : Type 0} (left : I → Option (List ℕ)) (faults : I → ℕ) (held : O → Option (List ℕ)) (put_faults : O → ℕ) (before after : SessionState I O) {T : Type 0} (result : Result T SessionFault) : Type 0 where
  -- `Read` only where the source's count rose
  pub read : HasCause (faults before.source.source) (faults after.source.source) result fault.Read
  -- `Write` only where the sink's count rose
  pub write : HasCause (put_faults before.sink) (put_faults after.sink) result fault.Write
  -- `TooMuch` only where no line is left and the script is over its limit
  pub too_much : IsErrOf result fault.TooMuch → IsTooMuch left before.source
  -- after any fault the session is at its end, and no reply is counted
  pub ended : OnErr result ((after.ended ≡ true) × (after.replies ≡ before.replies) × (after.seens ≡ before.seens))
  -- only a put that failed wrote anything, and only want of memory is noted as such
  pub nothing : (f : SessionFault) → result ≡ Err f → f ≢ fault.Write → (held after.sink ≡ held before.sink) × (after.lacked ≡ before.lacked || is_no_memory f)
