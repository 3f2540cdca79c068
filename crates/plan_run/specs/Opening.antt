-- What the stages of a run before its threads leave, put together.
use Rattle.std.specs.Prelude.{◌≡◌, ◌≢◌, ◌⊎◌, ℕ, ◌+◌, ◌≤◌, List, [], ◌∷◌, ◌++◌, length, Option, Some, None, IfSome, Result, Ok, Err, All, vec_len, vec_capacity}
use Rattle.std.specs.List.{AllZip}
use Rattle.cube_crew.specs.Begins.{MayRun}
use Rattle.cube_schema.specs.Files.{input_names, output_names}
use Rattle.cube_schema.specs.declared.plan.Plan.{Plan}
use Rattle.cube_view.specs.declared.schema.Schema.{Schema}
use Rattle.outer_io.specs.Faults.{Rose}
use Rattle.outer_io.specs.Files.{Files}
use Rattle.run_files.specs.Headed.{EndsAtFeeds, HasHeader}
use Rattle.run_files.specs.Leaving.{FailsAtLast, FailsAtLastMade, LeavesPlace}
use Rattle.run_files.specs.Outside.{file_of, Outside, PlaceSeen, Silent, SinkSeen}
use Rattle.run_files.specs.Planned.{MayHavePlan}
use Rattle.run_files.specs.Scripted.{IsOutput}
use Rattle.run_files.specs.declared.stop.Stop.{Stop}
use Rattle.run_files.specs.declared.stop.Stop.TheVariants.{PlanRefused, ReadFault, WriteFault, FeedRefused}
use Rattle.plan_run.specs.Ready.{IsJobOf, IsSessionOf}
use Rattle.plan_run.specs.declared.parts.RunParts.{RunParts}

-- the files that a run opens after its plan; none where it has no plan
abbrev pub inputs_of : Option Plan → List (List ℕ)
inputs_of None = []
inputs_of (Some plan) = input_names plan

-- and those that it creates
abbrev pub outputs_of : Option Plan → List (List ℕ)
outputs_of None = []
outputs_of (Some plan) = output_names plan

-- the plan that a run goes on with, where it does
abbrev pub plan_in : {T : Type 0} → Result (Plan × T) Stop → Option Plan
plan_in (Ok run) = Some run.0
plan_in (Err stop) = None

module _ {P O : Type 0} (p : PlaceSeen P) (s : SinkSeen O) (plan : Plan) (before after : Outside P O) where
  -- All feeds of the plan were opened, and then these scripts
  pub record PassesFeeds (opens : List (List ℕ)) (stop : Option Stop) : Type 0 where
    pub scripts : List (List ℕ)
    pub opens_are : opens ≡ plan.feeds ++ scripts
    -- each feed has a header
    pub headed : All (λ name. HasHeader plan.schema (file_of (p.files before.place) name)) plan.feeds
    -- nothing was put
    pub silent : Silent s before.out after.out
    -- a write fault has its cause
    pub write : stop ≡ Some WriteFault → Rose (p.write_faults before.place) (p.write_faults after.place)
    pub ends : (stop ≢ Some PlanRefused) × (stop ≢ Some FeedRefused)

  -- of the plan's files the feeds come first, the header of each one read before the next file is opened
  abbrev pub OpensInOrder : List (List ℕ) → List (List ℕ) → Option Stop → Type 0
  OpensInOrder opens makes stop = EndsAtFeeds p s plan before after opens makes stop ⊎ PassesFeeds opens stop

-- What opening the files of a plan leaves of a place and a sink, by what ends the run with it, if it does
pub record OpensFiles {P O : Type 0} (p : PlaceSeen P) (s : SinkSeen O) (before after : Outside P O) (plan : Plan) (stop : Option Stop) : Type 0 where
  pub leaves : LeavesPlace p before.place after.place (input_names plan) (output_names plan) stop
  -- a read fault ends the run at the file that was opened last
  pub first : stop ≡ Some ReadFault → FailsAtLast p before.place leaves.opens
  -- and no write failed before the output that was created last
  pub made : (leaves.makes ≡ []) ⊎ FailsAtLastMade p before.place leaves.makes
  pub order : OpensInOrder p s plan before after leaves.opens leaves.makes stop

-- What opening a run leaves of a place and a sink, by the plan that it goes on with, or what ends it
pub record OpensRun {P O : Type 0} (p : PlaceSeen P) (s : SinkSeen O) (before after : Outside P O) (name : List ℕ) (goes : Option Plan) (stop : Option Stop) : Type 0 where
  -- the plan, where the file of that name was read and is one
  pub planned : MayHavePlan s before.out after.out (file_of (p.files before.place) name) (λ end. stop ≡ Some end)
  pub goes_on : IfSome goes (λ it. planned.plan ≡ Some it)
  -- it was opened first, then the plan's inputs, and then its outputs were created
  pub leaves : LeavesPlace p before.place after.place (name ∷ inputs_of planned.plan) (outputs_of planned.plan) stop
  -- a read fault ends the run at the file that was opened last
  pub first : stop ≡ Some ReadFault → FailsAtLast p before.place leaves.opens
  -- and no write failed before the output that was created last
  pub made : (leaves.makes ≡ []) ⊎ FailsAtLastMade p before.place leaves.makes
  -- feeds come before scripts, and what ends the run there has its cause
  pub order : IfSome planned.plan (λ plan. (opens : List (List ℕ)) × (leaves.opens ≡ name ∷ opens) × OpensInOrder p s plan before after opens leaves.makes stop)
  -- nothing else is put but what is said of a refused feed
  pub silent : stop ≢ Some PlanRefused → stop ≢ Some FeedRefused → stop ≢ Some WriteFault → Silent s before.out after.out

-- The parts are ready to run under the plan, each over its file's bytes, where these are told
pub record AreReady {I O : Type 0} (left : I → Option (List ℕ)) (faults : I → ℕ) (s : SinkSeen O) (files : Option Files) (plan : Plan) (parts : RunParts I O) : Type 0 where
  -- each feed's cutter stands behind its header
  pub feeds : AllZip (λ name. IsJobOf left faults plan.schema (file_of files name)) plan.feeds parts.jobs.feeds
  -- each session has had no turn, over its script and an empty sink under its name
  pub asks : AllZip (IsSessionOf left faults s files) plan.asks parts.jobs.asks
  pub finals : AllZip (IsSessionOf left faults s files) plan.finals parts.jobs.finals
  -- the journal's sink is empty under its name
  pub journal : IsOutput s files plan.journal parts.journal

-- The parts meet what threads ask of them, whatever the files tell
pub record AreFit {I O : Type 0} (schema : Schema) (parts : RunParts I O) : Type 0 where
  -- the jobs may run
  pub jobs : MayRun schema parts.jobs
  -- there is room for the sinks of all sessions, and nothing in it
  pub empty : (parts.room.items ≡ []) × (vec_len parts.room ≡ 0)
  pub room : length parts.jobs.asks + length parts.jobs.finals ≤ vec_capacity parts.room
