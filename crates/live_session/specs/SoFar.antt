-- What a session has answered since it began.
use Rattle.std.specs.Prelude.{◌≡◌, ℕ, ◌+◌, ◌≤◌, Bool, false, List, [], ◌∷◌, ◌++◌, length, Option, Result, Ok, Err}
use Rattle.cube_view.specs.declared.schema.Schema.{Schema}
use Rattle.cube_view.specs.declared.stat.Stat.{Stat}
use Rattle.live_session.specs.News.{News, takes_after}
use Rattle.live_session.specs.State.{SessionEnds, SessionState}
use Rattle.live_session.specs.Turned.{seens_of}
use Rattle.outer_io.specs.Bytes.{Gains, GainsPart}
use Rattle.outer_io.specs.Cutting.{lines_left}
use Rattle.outer_io.specs.Lines.{Line}
use Rattle.outer_io.specs.Progress.{Passes}
use Rattle.outer_io.specs.Told.{Told}
use Rattle.query_syntax.specs.declared.query.Parsed.{Parsed}
use Rattle.reply_json.specs.declared.reply.Reply.{Reply}
use Rattle.session_core.specs.Asked.{asked}
use Rattle.session_core.specs.Scripts.{has_quit}
use Rattle.session_core.specs.Transcript.{IsTranscript, replies_text}
use Rattle.session_core.specs.declared.fault.SessionFault.{SessionFault}
use Rattle.session_core.specs.declared.fault.SessionFault.TheVariants as fault

-- what these lines ask is the first of what all lines ask
abbrev pub AsksFirst : Schema → List Line → List Line → Type 0
AsksFirst schema lines all = (later : List Parsed) × (asked schema all ≡ asked schema lines ++ later)

-- A session in this state, which was shown and told this
pub record Moment (I O : Type 0) : Type 0 where
  pub news : News
  pub state : SessionState I O

-- the moment of these
abbrev pub moment : {I O : Type 0} → News → SessionState I O → Moment I O
moment news state = record { news = news; state = state }

-- of a session whose mailbox had been asked so often, from a state of it on to now
module _ {I O : Type 0} (ends : SessionEnds I O) (schema : Schema) (is_stat : Stat → Type 0) (final : Bool) (taken : ℕ) (start : SessionState I O) (now : Moment I O) where
  -- What it has answered, within the list that its viewer was shown last and the length that it was told
  pub record HasAnswered : Type 0 where
    -- the lines that it answered
    pub lines : List Line
    -- its replies to them
    pub replies : List Reply
    -- what they ask is the first of what the script asks
    pub first : Told (lines_left ends.left start.source) (AsksFirst schema lines)
    -- the replies are a transcript of it
    pub transcript : IsTranscript schema is_stat final now.news.shown (length now.news.told) now.state.lacked (asked schema lines) replies
    -- the sink has gained their text
    pub gained : Gains (ends.held start.sink) (ends.held now.state.sink) (replies_text replies)
    -- they are counted
    pub counted : now.state.replies ≡ start.replies + length replies
    -- and the numbers of points seen that they print are noted
    pub noted : now.state.seens ≡ start.seens ++ seens_of replies
    -- the mailbox was asked no less often than the lines ask
    pub takes : takes_after schema lines taken ≤ now.news.takes
    -- a session that goes on has gone on over the lines, and none is `quit`
    pub goes_on : now.state.ended ≡ false → Passes ends.left ends.faults start.source now.state.source lines × (has_quit schema lines ≡ false)

  -- What it has answered where its last put failed
  pub record HasBroken : Type 0 where
    -- the lines that it answered, the last one with a part of its reply
    pub lines : List Line
    -- its whole replies
    pub replies : List Reply
    -- the reply of which it put a part
    pub reply : Reply
    -- what they ask is the first of what the script asks
    pub first : Told (lines_left ends.left start.source) (AsksFirst schema lines)
    -- the replies and that one are a transcript of it
    pub transcript : IsTranscript schema is_stat final now.news.shown (length now.news.told) now.state.lacked (asked schema lines) (replies ++ reply ∷ [])
    -- the sink has gained a part of their text, from the front
    pub gained : GainsPart (ends.held start.sink) (ends.held now.state.sink) (replies_text (replies ++ reply ∷ []))
    -- the whole replies are counted
    pub counted : now.state.replies ≡ start.replies + length replies
    -- and the numbers of points seen that they print are noted
    pub noted : now.state.seens ≡ start.seens ++ seens_of replies
    -- the mailbox was asked no less often than the lines ask
    pub takes : takes_after schema lines taken ≤ now.news.takes

  -- The same once it gave this answer: only a put that failed leaves a part of a reply
  abbrev pub HasDone : {T : Type 0} → Result T SessionFault → Type 0
  HasDone (Ok answer) = HasAnswered
  HasDone (Err fault.NoMemory) = HasAnswered
  HasDone (Err fault.Read) = HasAnswered
  HasDone (Err fault.TooMuch) = HasAnswered
  HasDone (Err fault.Write) = HasBroken

-- what a session has answered by the one moment, since any state of it and any number of asks of the mailbox, goes on
-- over a turn with this answer to the other
abbrev pub KeepsAnswers : {I O T : Type 0} → SessionEnds I O → Schema → (Stat → Type 0) → Bool → Moment I O → Moment I O → Result T SessionFault → Type 0
KeepsAnswers {I} {O} ends schema is_stat final a b result =
    (start : SessionState I O) (taken : ℕ) → HasAnswered ends schema is_stat final taken start a
    → HasDone ends schema is_stat final taken start b result

-- all that the script asks was answered
abbrev pub AnswersAll : {I O : Type 0} → (I → Option (List ℕ)) → Schema → SessionState I O → SessionState I O → Type 0
AnswersAll left schema start now = Told (lines_left left start.source) (λ all. now.replies ≡ start.replies + length (asked schema all))
