-- What answering a script without a cube leaves.
use Rattle.std.specs.Prelude.{◌≡◌, ◌≢◌, ℕ, Bool, true, false, List, [], ◌∷◌, ◌++◌, take, Result, Ok, Err}
use Rattle.std.specs.List.{flat_map}
use Rattle.flat_session.specs.Answers.{answer_line, FlatBasis}
use Rattle.flat_session.specs.Putting.{PutsLinesFront}
use Rattle.outer_io.specs.Bytes.{Gains}
use Rattle.outer_io.specs.Files.{file_or_empty}
use Rattle.outer_io.specs.Lines.{lines}
use Rattle.outer_io.specs.Told.{Told}
use Rattle.run_files.specs.Outside.{Outside, PlaceSeen, SinkSeen}
use Rattle.run_files.specs.Stops.{is_lacking}
use Rattle.run_files.specs.declared.stop.Stop.{Stop}
use Rattle.run_files.specs.declared.stop.Stop.TheVariants as stop
use Rattle.session_core.specs.Asked.{asked}
use Rattle.session_core.specs.Scripts.{is_script_refused}

-- the lines that answer a script over a list of points, each of which was told: printed tables of direct totals, but
-- for `told`, for faults, and for `stat`, which has no cube
abbrev pub script_answers : FlatBasis → List ℕ → List ℕ
script_answers of script = flat_map (answer_line of) (asked of.schema (lines script))

module _ {O : Type 0} (s : SinkSeen O) (out out' : O) (of : FlatBasis) where
  -- the sink gained the answers to all that the script asks, which is refused or is not
  abbrev pub GainsScript : Bool → List ℕ → Type 0
  GainsScript refused script = Gains (s.held out) (s.held out') (script_answers of script) × (is_script_refused of.schema script ≡ refused)

  -- it gained a part, from the front; one may be the line for want of memory, or may not
  abbrev pub GainsScriptPart : Bool → List ℕ → Type 0
  GainsScriptPart lacking script = PutsLinesFront of lacking (s.held out) (s.held out') (lines script)

-- What answering the named script leaves of a place and a sink
pub record AnswersNamed {P O : Type 0} (p : PlaceSeen P) (s : SinkSeen O) (before after : Outside P O) (of : FlatBasis) (name : List ℕ) (result : Result (Unit {0}) Stop) : Type 0 where
  -- with Ok the sink gained all answers, and the script is not refused
  pub done : result ≡ Ok tt → Told (p.files before.place) (λ files. GainsScript s before.out after.out of false (file_or_empty files name))
  -- and so it did where the script is refused
  pub refused : result ≡ Err stop.FeedRefused → Told (p.files before.place) (λ files. GainsScript s before.out after.out of true (file_or_empty files name))
  -- with any end it gained some of them
  pub part : Told (p.files before.place) (λ files. GainsScriptPart s before.out after.out of (is_lacking result) (file_or_empty files name))
  -- no plan is refused
  pub form : result ≢ Err stop.PlanRefused
  -- the script was opened, once at most, and with Ok it was
  pub opens : ℕ
  pub opened : p.opened after.place ≡ p.opened before.place ++ take opens (name ∷ [])
  pub opened_it : result ≡ Ok tt → p.opened after.place ≡ p.opened before.place ++ name ∷ []
