-- The statuses of the program `flat`.
use Rattle.std.specs.Prelude.{◌≡◌, ℕ, List, [], ◌∷◌, Option, Some, None, Ok, Err}
use Rattle.flat_run.specs.Ends.{FlatEnd, FlatEnds}
use Rattle.flat_run.specs.Names.{ScriptNames}
use Rattle.run_files.specs.declared.stop.Stop.TheVariants as stop
use Rattle.run_files.specs.Outside.{Outside, PlaceSeen, SinkSeen}
use Rattle.flat.specs.declared.status.Status.{Status}
use Rattle.flat.specs.declared.status.Status.TheVariants.{Done, Usage, Stopped}

-- the status of an end
abbrev pub flat_status : FlatEnd → Status
flat_status (Err stop) = Stopped stop
flat_status (Ok done) = Done

-- the exit code of a status
abbrev pub flat_code : Status → ℕ
flat_code Done = 0
flat_code (Stopped stop.FeedRefused) = 7
flat_code (Stopped stop.WriteFault) = 6
flat_code (Stopped stop.ReadFault) = 5
flat_code (Stopped stop.NoMemory) = 4
flat_code (Stopped stop.PlanRefused) = 3
flat_code Usage = 2

-- the names that the words give, where they are of the program's form: a plan and a script
abbrev pub word_names : List (List ℕ) → Option ScriptNames
word_names (plan ∷ script ∷ []) = Some (record { plan = plan; script = script })
word_names words = None

-- where the words are of that form, the status is that of an end over the files that they name
abbrev pub EndsByWords : {P O : Type 0} → PlaceSeen P → SinkSeen O → Outside P O → Outside P O → List (List ℕ) → Status → Type 0
EndsByWords p s before after words status = (names : ScriptNames) → word_names words ≡ Some names → (end : FlatEnd) × FlatEnds p s before after names end × (status ≡ flat_status end)
