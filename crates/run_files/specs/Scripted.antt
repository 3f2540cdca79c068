-- Scripts that were opened, the outputs that were created for them, and what both leave.
use Rattle.std.specs.Prelude.{List, Option, Some, [], ℕ, ◌≡◌, ◌≢◌, ◌⊎◌}
use Rattle.std.specs.List.{AllZip}
use Rattle.cube_schema.specs.Repeats.{outputs}
use Rattle.cube_schema.specs.declared.plan.Plan.{Plan}
use Rattle.outer_io.specs.Cutting.{Cutter, IsNew}
use Rattle.outer_io.specs.Faults.{Rose}
use Rattle.outer_io.specs.Files.{Files}
use Rattle.outer_io.specs.Told.{Told}
use Rattle.run_files.specs.Leaving.{FailsAtLast, FailsAtLastMade, LeavesPlace}
use Rattle.run_files.specs.Outside.{file_of, PlaceSeen, SinkSeen}
use Rattle.run_files.specs.declared.scripts.ScriptParts.{ScriptParts}
use Rattle.run_files.specs.declared.stop.Stop.{Stop}
use Rattle.run_files.specs.declared.stop.Stop.TheVariants.{PlanRefused, ReadFault, WriteFault, FeedRefused}

-- a cutter that has given nothing, over a source that met no fault and has the bytes of the file, where they are told
pub record IsScript {S : Type 0} (left : S → Option (List ℕ)) (faults : S → ℕ) (file : Option (List ℕ)) (cutter : Cutter S) : Type 0 where
  pub is_new : IsNew cutter.source cutter
  pub left_is : Told file (λ bytes. left cutter.source ≡ Some bytes)
  pub fresh : faults cutter.source ≡ 0

-- so is each of these, over the file of its name
abbrev pub AreScripts : {S : Type 0} → (S → Option (List ℕ)) → (S → ℕ) → Option Files → List (List ℕ) → List (Cutter S) → Type 0
AreScripts left faults files names scripts = AllZip (λ name. IsScript left faults (file_of files name)) names scripts

-- a sink of that name that met no fault and holds nothing, where the place tells its files
pub record IsOutput {O : Type 0} (s : SinkSeen O) (files : Option Files) (name : List ℕ) (sink : O) : Type 0 where
  pub name_is : s.name sink ≡ name
  pub fresh : s.faults sink ≡ 0
  pub holds_nothing : Told files (λ _. s.held sink ≡ Some [])

-- What opening scripts and creating outputs leaves of a place, by what ends the run with it, if it does
pub record OpensScripts {P : Type 0} (p : PlaceSeen P) (before after : P) (inputs outputs : List (List ℕ)) (stop : Option Stop) : Type 0 where
  pub leaves : LeavesPlace p before after inputs outputs stop
  -- a read fault ends the run at the script that was opened last
  pub first : stop ≡ Some ReadFault → FailsAtLast p before leaves.opens
  -- no write failed before the output that was created last
  pub made : (leaves.makes ≡ []) ⊎ FailsAtLastMade p before leaves.makes
  -- a write fault has its cause
  pub write : stop ≡ Some WriteFault → Rose (p.write_faults before) (p.write_faults after)
  -- no other end comes than those of the place and want of memory
  pub ends : (stop ≢ Some PlanRefused) × (stop ≢ Some FeedRefused)

-- The parts are those of the plan's scripts, each over its file, and the sinks for their replies and for its journal
pub record AreScriptParts {S O : Type 0} (left : S → Option (List ℕ)) (faults : S → ℕ) (s : SinkSeen O) (files : Option Files) (plan : Plan) (parts : ScriptParts (Cutter S) O) : Type 0 where
  pub asks : AreScripts left faults files plan.asks parts.asks
  pub finals : AreScripts left faults files plan.finals parts.finals
  pub ask_outputs : AllZip (IsOutput s files) (outputs plan.asks) parts.ask_outputs
  pub final_outputs : AllZip (IsOutput s files) (outputs plan.finals) parts.final_outputs
  pub journal : IsOutput s files plan.journal parts.journal
