-- What answering a script over a view leaves.
use Rattle.std.specs.Prelude.{◌≡◌, ◌≢◌, ℕ, Bool, true, false, List, [], ◌∷◌, ◌++◌, length, take, Some, Result, Ok, Err}
use Rattle.cube_view.specs.Points.{Point}
use Rattle.outer_io.specs.Files.{Files, file_or_empty}
use Rattle.outer_io.specs.Lines.{lines}
use Rattle.session_core.specs.Answered.{GainsReplies, GainsFront}
use Rattle.session_core.specs.Asked.{asked}
use Rattle.session_core.specs.Scripts.{is_script_refused}
use Rattle.session_core.specs.declared.answering.ScriptEnd.{ScriptEnd}
use Rattle.session_core.specs.declared.fault.SessionFault.{SessionFault}
use Rattle.run_files.specs.Views.{ViewSeen}
use Rattle.run_files.specs.Outside.{Outside, PlaceSeen, SinkSeen}
use Rattle.run_files.specs.Stops.{is_lacking, joined_ends, stop_of_session}
use Rattle.run_files.specs.declared.stop.Stop.{Stop}
use Rattle.run_files.specs.declared.stop.Stop.TheVariants as stop

-- how a run ends whose script was answered so far, if that ends it
abbrev pub answers_end : Result (Unit {0}) SessionFault → Result (Unit {0}) Stop
answers_end (Ok answered) = Ok answered
answers_end (Err fault) = Err (stop_of_session fault)

-- and where a reply was the line for want of memory
abbrev pub lacking_end : Bool → Result (Unit {0}) Stop
lacking_end true = Err stop.NoMemory
lacking_end false = Ok tt

-- how a run ends by the end of the answers to its script
abbrev pub script_end : ScriptEnd → Result (Unit {0}) Stop
script_end e = joined_ends (lacking_end e.lacked) (answers_end e.end)

-- what a sink gains of the answers to a script over a view
module _ {O : Type 0} (s : SinkSeen O) (out out' : O) (view : ViewSeen) where
  -- all of them, over each list of points that the view counts
  abbrev pub GainsAllOver : List ℕ → Type 0
  GainsAllOver script = (h : List Point) → view.counts h → GainsReplies view.schema view.is_stat h (length h) false (s.held out) (s.held out') (asked view.schema (lines script))

  -- some, from the front; one may be the line for want of memory, or may not
  abbrev pub GainsSomeOver : Bool → List ℕ → Type 0
  GainsSomeOver lacking script = (h : List Point) → view.counts h → GainsFront view.schema view.is_stat h (length h) lacking (s.held out) (s.held out') (asked view.schema (lines script))

-- What answering the named script leaves of a place and a sink, over a view, each point of which was told
pub record AnswersFile {P O : Type 0} (p : PlaceSeen P) (s : SinkSeen O) (before after : Outside P O) (view : ViewSeen) (name : List ℕ) (result : Result (Unit {0}) Stop) : Type 0 where
  -- no plan is refused
  pub form : result ≢ Err stop.PlanRefused
  -- with Ok the sink gained all answers, and the script is not refused
  pub done : (files : Files) → p.files before.place ≡ Some files → result ≡ Ok tt → GainsAllOver s before.out after.out view (file_or_empty files name) × (is_script_refused view.schema (file_or_empty files name) ≡ false)
  -- and so it did where the script is refused
  pub refused : (files : Files) → p.files before.place ≡ Some files → result ≡ Err stop.FeedRefused → GainsAllOver s before.out after.out view (file_or_empty files name) × (is_script_refused view.schema (file_or_empty files name) ≡ true)
  -- with any end it gained some of them
  pub part : (files : Files) → p.files before.place ≡ Some files → GainsSomeOver s before.out after.out view (is_lacking result) (file_or_empty files name)
  -- the script was opened, once at most, and with Ok it was
  pub opened_once : (k : ℕ) × (p.opened after.place ≡ p.opened before.place ++ take k (name ∷ []))
  pub opened_it : result ≡ Ok tt → p.opened after.place ≡ p.opened before.place ++ name ∷ []
  -- where it was not, nothing was written
  pub untouched : p.opened after.place ≡ p.opened before.place → after.out ≡ before.out
