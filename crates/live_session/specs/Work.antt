-- A session's part of a run as contracts see it.
use Rattle.std.specs.Prelude.{◌≡◌, ℕ, ◌-◌, Bool, true, false, ◌||◌, List, length, Option, Some, None, Result, Ok, Err, slice_get, unwrap_or}
use Rattle.live_session.specs.declared.done.SessionDone.{SessionDone}
use Rattle.cube_view.specs.declared.schema.Schema.{Schema}
use Rattle.live_session.specs.State.{SessionState, new_session}
use Rattle.mailbox.specs.Ends.{OutEnd}
use Rattle.published_pair.specs.Rules.{Known}
use Rattle.session_core.specs.declared.fault.SessionFault.{SessionFault}
use Rattle.session_core.specs.declared.fault.SessionFault.TheVariants as fault

-- A session with its viewer and its end of a mailbox
pub record WorkState (I O : Type 0) : Type 0 where
  -- the session
  pub session : SessionState I O
  -- the schema of its viewer
  pub schema : Schema
  -- the list that the viewer was shown last
  pub shown : Known
  -- the longest list that it learned of
  pub learned : Known
  -- the ended list, once it has learned that
  pub last : Option Known
  -- the end of its mailbox that takes
  pub mail : OutEnd
  -- how the session's run ended
  pub end : Result (Unit {0}) SessionFault

-- the session has had no turn
abbrev pub HadNoTurn : {I O : Type 0} → SessionState I O → Type 0
HadNoTurn session = session ≡ new_session session.source session.sink

-- the last of the numbers, or 0
abbrev pub last_number : List ℕ → ℕ
last_number ns = unwrap_or (slice_get ns (length ns - 1)) 0

-- the fault that ended a run, if there was one
abbrev pub ending_fault : Result (Unit {0}) SessionFault → Option SessionFault
ending_fault (Ok x) = None
ending_fault (Err fault) = Some fault

-- what is given back of it: its parts, how many replies it put, the last number of points seen that they print, or 0,
-- and the fault that ended it
abbrev pub done_of : {I O : Type 0} → WorkState I O → SessionDone I O
done_of work = record {
  source = work.session.source.source;
  sink = work.session.sink;
  replies = work.session.replies;
  seen = last_number work.session.seens;
  mail = work.mail;
  fault = ending_fault work.end;
}

-- its run ended for want of memory
abbrev pub is_starved_end : Result (Unit {0}) SessionFault → Bool
is_starved_end (Ok x) = false
is_starved_end (Err fault.NoMemory) = true
is_starved_end (Err fault.Read) = false
is_starved_end (Err fault.Write) = false
is_starved_end (Err fault.TooMuch) = false

-- one of its replies was the line for want of memory, or its run ended for want of it
abbrev pub has_starved : {I O : Type 0} → WorkState I O → Bool
has_starved work = work.session.lacked || is_starved_end work.end
