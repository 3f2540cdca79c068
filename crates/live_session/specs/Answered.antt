-- What a session does with what a line means.
use Rattle.std.specs.Prelude.{◌≡◌, ℕ, ◌+◌, true, false, ◌||◌, List, [], ◌∷◌, ◌++◌, Option, Result, IfOk, IsErrOf}
use Rattle.cube_view.specs.declared.schema.Schema.{Schema}
use Rattle.cube_view.specs.declared.stat.Stat.{Stat}
use Rattle.cube_view.specs.declared.view.CubeView as CubeView
use Rattle.live_session.specs.News.{HasNews, News}
use Rattle.live_session.specs.Saying.{IsNewsOf, IsShownTo}
use Rattle.live_session.specs.State.{SessionState}
use Rattle.live_session.specs.Turned.{AreNext, HasPut, listed}
use Rattle.live_session.specs.declared.turn.Turn.{Turn}
use Rattle.live_session.specs.declared.turn.Turn.TheVariants as turn
use Rattle.outer_io.specs.Bytes.{Gains, GainsPart}
use Rattle.published_pair.specs.declared.viewer.Viewer.{Viewer}
use Rattle.query_syntax.specs.declared.query.Parsed.{Parsed}
use Rattle.query_syntax.specs.declared.query.Parsed.TheVariants.{Skip}
use Rattle.reply_json.specs.declared.reply.Reply.{Reply}
use Rattle.session_core.specs.Asked.{asked_then, asks_to_end, reply_line}
use Rattle.session_core.specs.Transcript.{is_lack}
use Rattle.session_core.specs.declared.fault.SessionFault.{SessionFault}
use Rattle.session_core.specs.declared.fault.SessionFault.TheVariants as fault

-- What a put of a line without a fault leaves, where this number of points seen is noted for it, or none
pub record PutsLine {I O : Type 0} (held : O → Option (List ℕ)) (before after : SessionState I O) (line : List ℕ) (seen : Option ℕ) (answer : Turn) : Type 0 where
  -- the answer is that a reply was put
  pub replied : answer ≡ turn.Replied
  -- the sink gained the line
  pub gained : Gains (held before.sink) (held after.sink) line
  -- it is counted
  pub counted : after.replies ≡ before.replies + 1
  -- its number is noted
  pub noted : after.seens ≡ before.seens ++ listed seen
  -- no want of memory is noted
  pub lacks : after.lacked ≡ before.lacked
  -- the session goes on
  pub going : after.ended ≡ false

-- of a session that had been shown and told `a`, and is shown and told `b` for what a line means
module _ {I O : Type 0} (held : O → Option (List ℕ)) (schema : Schema) (is_stat : Stat → Type 0) (a b : News) (before after : SessionState I O) (p : Parsed) where
  -- what the answer tells
  abbrev pub IsAnswer : List Reply → Turn → Type 0
  IsAnswer replies turn.Skipped = (p ≡ Skip) × (replies ≡ []) × (after.ended ≡ false)
  IsAnswer replies turn.Replied = (reply : Reply) × (replies ≡ reply ∷ []) × (asks_to_end p ≡ false) × (after.ended ≡ false)
  IsAnswer replies turn.Ended = (asks_to_end p ≡ true) × (replies ≡ []) × (after.ended ≡ true)

  -- the replies to it were put
  pub record Answered (turn : Turn) : Type 0 where
    -- one, or none
    pub replies : List Reply
    -- they are the next of the session
    pub next : AreNext schema is_stat a b after.lacked (asked_then p []) replies
    -- they were put
    pub put : HasPut held before after replies
    -- the answer is as it says
    pub answer : IsAnswer replies turn

  -- a part of the reply to it was put
  pub record IsBroken : Type 0 where
    -- the reply
    pub reply : Reply
    -- it is the next of the session
    pub next : AreNext schema is_stat a b after.lacked (asked_then p []) (reply ∷ [])
    -- what it answers is no `quit`
    pub no_quit : asks_to_end p ≡ false
    -- the sink gained a part of its line, from the front
    pub gained : GainsPart (held before.sink) (held after.sink) (reply_line reply)
    -- whether it is the line for want of memory is noted
    pub lacks : after.lacked ≡ before.lacked || is_lack reply

-- What is put for what a line means, by what this viewer was shown and told for it, with this answer
pub record PutsFor {I O V C : Type 0} {members : CubeView.Ghosts V C} (held : O → Option (List ℕ)) (viewer : Viewer V C members) (before after : SessionState I O) (p : Parsed) (result : Result Turn SessionFault) : Type 0 where
  -- without a fault the replies to it are put, whatever it changed of the session's news
  pub answered : (a b : News) → HasNews p a b → IsNewsOf viewer p b → IfOk result (Answered held viewer.schema (IsShownTo viewer) a b before after p)
  -- where the put fails a part of the reply to it is
  pub broken : (a b : News) → HasNews p a b → IsNewsOf viewer p b → IsErrOf result fault.Write → IsBroken held viewer.schema (IsShownTo viewer) a b before after p
