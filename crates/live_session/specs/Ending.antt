-- How the run of a session ends.
use Rattle.std.specs.Prelude.{◌≡◌, ℕ, true, List, Option, Result, OnOk, IsErrOf}
use Rattle.cube_view.specs.declared.schema.Schema.{Schema}
use Rattle.live_session.specs.Refusing.{RefusesExactly}
use Rattle.live_session.specs.SoFar.{AnswersAll}
use Rattle.live_session.specs.State.{SessionState}
use Rattle.outer_io.specs.Progress.{IsTooLarge}
use Rattle.session_core.specs.declared.fault.SessionFault.{SessionFault}
use Rattle.session_core.specs.declared.fault.SessionFault.TheVariants as fault

-- What the end of a run from one state of a session to another tells of its script
pub record EndsScript {I O T : Type 0} (left : I → Option (List ℕ)) (schema : Schema) (before after : SessionState I O) (result : Result T SessionFault) : Type 0 where
  -- all that it asks is answered, where there was no fault
  pub all : OnOk result (AnswersAll left schema before after)
  -- and where there was too much: then it is over its limit
  pub too_much : IsErrOf result fault.TooMuch → AnswersAll left schema before after × IsTooLarge left before.source
  -- one that the run went over from its front is refused where there was too much, and is not where there was no fault
  pub refused : RefusesExactly left schema before.source result
  -- the session is at its end
  pub ended : after.ended ≡ true
