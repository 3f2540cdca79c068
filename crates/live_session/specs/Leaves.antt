-- What the run of a session leaves.
use Rattle.std.specs.Prelude.{◌≡◌, ℕ, true, false, List, Option, OnOk, IsErrOf, IfSome}
use Rattle.live_session.specs.Work.{WorkState}
use Rattle.cube_view.specs.declared.stat.Stat.{Stat}
use Rattle.live_session.specs.News.{Goes, news_of}
use Rattle.live_session.specs.Refusing.{RefusesExactly}
use Rattle.live_session.specs.SoFar.{AnswersAll, HasDone, moment}
use Rattle.live_session.specs.State.{SessionEnds}
use Rattle.outer_io.specs.Faults.{HasCause}
use Rattle.outer_io.specs.Progress.{IsTooLarge}
use Rattle.session_core.specs.declared.fault.SessionFault.TheVariants as fault

-- The run of a session over a source and a sink, with the numbers of a structure that meet the test, leaves
pub record LeavesSession {I O : Type 0} (ends : SessionEnds I O) (is_stat : Stat → Type 0) (before after : WorkState I O) : Type 0 where
  -- a transcript of the first of what its script asks, within what its viewer was shown last and told; after `Write` of
  -- one reply more, of which the sink gained a part. The line for want of memory stands in it only where that is noted,
  -- the numbers of points seen are noted, and the mailbox was asked as often as the lines ask
  pub replied : HasDone ends before.schema is_stat false before.mail.takes before.session (moment (news_of after.shown after.learned after.mail) after.session) after.end
  -- a final one over the ended list, where its viewer had learned that
  pub final : IfSome before.last (λ w. HasDone ends before.schema is_stat true before.mail.takes before.session (moment (news_of w w after.mail) after.session) after.end)
  -- all that the script asks answered, where it ended without a fault
  pub all : OnOk after.end (AnswersAll ends.left before.schema before.session after.session)
  -- and where there was too much: then the script is over its limit
  pub too_much : IsErrOf after.end fault.TooMuch → AnswersAll ends.left before.schema before.session after.session × IsTooLarge ends.left before.session.source
  -- a script that is refused exactly then, and not where it ended without a fault, of a session whose cutter had given
  -- nothing
  pub refused : RefusesExactly ends.left before.schema before.session.source after.end
  -- `Read` only where the source's count of faults rose, which else stands
  pub read : HasCause (ends.faults before.session.source.source) (ends.faults after.session.source.source) after.end fault.Read
  -- `Write` only where the sink's count rose, which else stands
  pub write : HasCause (ends.put_faults before.session.sink) (ends.put_faults after.session.sink) after.end fault.Write
  -- the session at its end, and its sink's name as it was
  pub ended : (after.session.ended ≡ true) × (ends.name after.session.sink ≡ ends.name before.session.sink)
  -- a viewer of the same pair, whose lists go on
  pub viewer : Goes before.shown before.learned before.last after.shown after.learned × (after.last ≡ before.last) × (after.schema ≡ before.schema)
  -- an end of the same mailbox and pair
  pub mail : (after.mail.mailbox ≡ before.mail.mailbox) × (after.mail.pair ≡ before.mail.pair)
