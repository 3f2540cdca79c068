-- What a session reads of its script.
use Rattle.std.specs.Prelude.{◌≡◌, ℕ, ◌<◌, ◌≤◌, true, false, List, Option, None, Result, Ok, IfOk, OnOk, IfSome, IsTrue}
use Rattle.cube_view.specs.declared.schema.Schema.{Schema}
use Rattle.live_session.specs.State.{SessionState}
use Rattle.outer_io.specs.Lines.{input_limit}
use Rattle.query_syntax.specs.Meaning.{asks_valid}
use Rattle.query_syntax.specs.declared.query.Parsed.{Parsed}
use Rattle.session_core.specs.Turns.{AsksNext}
use Rattle.session_core.specs.declared.fault.SessionFault.{SessionFault}

-- What reading the next line of its script tells of a session that was not at its end, and leaves of it
pub record ReadsNext {I O : Type 0} (left : I → Option (List ℕ)) (faults : I → ℕ) (schema : Schema) (before after : SessionState I O) (result : Result (Option Parsed) SessionFault) : Type 0 where
  -- without a fault it is what the next line means, or none where no line is left
  pub asked : IfOk result (AsksNext left faults schema before.source after.source)
  -- what a line means is valid under the schema
  pub valid : IfOk result (λ next. IfSome next (λ p. IsTrue (asks_valid schema p)))
  -- after a line the session goes on, and has put fewer replies than it read lines, within the limit
  pub going : IfOk result (λ next. IfSome next (λ p. (after.ended ≡ false) × (after.replies < after.source.given) × (after.source.given ≤ input_limit)))
  -- where no line is left it is at its end, and has read no further line
  pub end : result ≡ Ok None → (after.ended ≡ true) × (after.source.given ≡ before.source.given)
  -- only a fault notes want of memory
  pub lacked : OnOk result (after.lacked ≡ before.lacked)
