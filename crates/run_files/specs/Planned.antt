-- What reading a run's plan answers and puts.
use Rattle.std.specs.Prelude.{◌≡◌, ◌≢◌, ◌⊎◌, ℕ, List, [], ◌∷◌, Option, None, IfSome, Result, Ok, Err, IfOk, IfErr, IsErrOf}
use Rattle.cube_schema.specs.Drafts.{draft_of}
use Rattle.cube_schema.specs.Files.{NamesFiles}
use Rattle.cube_schema.specs.Meaning.{plan_meaning, IsPrintable}
use Rattle.cube_schema.specs.declared.fault.PlanFault.{PlanFault}
use Rattle.cube_schema.specs.declared.fault.PlanFault.TheVariants as plan
use Rattle.cube_schema.specs.declared.plan.Plan.{Plan}
use Rattle.outer_io.specs.Told.{Told}
use Rattle.run_files.specs.Lines.{plan_line}
use Rattle.run_files.specs.Leaving.{FailsAtLast, LeavesNames}
use Rattle.run_files.specs.Outside.{file_of, Outside, PlaceSeen, PutsOrFails, Silent, SinkSeen}
use Rattle.run_files.specs.declared.stop.Stop.{Stop}
use Rattle.run_files.specs.declared.stop.Stop.TheVariants as stop

-- the plan is what the bytes mean, where they are told; it can be printed, and names no file twice
pub record IsPlanOf (file : Option (List ℕ)) (plan : Plan) : Type 0 where
  pub meaning : Told file (λ bytes. plan_meaning bytes ≡ Ok (draft_of plan))
  pub printable : IsPrintable plan
  pub files : NamesFiles plan

-- the bytes meet a fault other than want of memory, and the line that says which was put, or a part of it where the put
-- failed
pub record RefusesPlan {O : Type 0} (s : SinkSeen O) (out out' : O) (file : Option (List ℕ)) : Type 0 where
  pub fault : PlanFault
  pub of_bytes : fault ≢ plan.NoMemory
  pub meaning : Told file (λ bytes. plan_meaning bytes ≡ Err fault)
  pub says : PutsOrFails s out out' (plan_line fault)

-- What a run's first stage answers, which reads these bytes as its plan, and what it puts into a sink
pub record ReadsPlan {O : Type 0} (s : SinkSeen O) (out out' : O) (file : Option (List ℕ)) (result : Result Plan Stop) : Type 0 where
  -- a plan is answered where they are one
  pub plan : IfOk result (IsPlanOf file)
  -- they are refused where they are none, which is said
  pub refused : IsErrOf result stop.PlanRefused → RefusesPlan s out out' file
  -- else nothing is put
  pub silent : result ≢ Err stop.PlanRefused → Silent s out out'
  -- and what ends the run is else a read fault or want of memory
  pub ends : IfErr result (λ end. (end ≢ stop.WriteFault) × (end ≢ stop.FeedRefused))

-- a run without a plan is ended by want of memory, by a read fault or by the plan's refusal; the test says what ends it
abbrev pub HasNoPlan : (Stop → Type 0) → Type 0
HasNoPlan EndsBy = EndsBy stop.NoMemory ⊎ EndsBy stop.ReadFault ⊎ EndsBy stop.PlanRefused

-- The plan of a run, where the file with these bytes was read and is one; the test says what ends the run
pub record MayHavePlan {O : Type 0} (s : SinkSeen O) (out out' : O) (file : Option (List ℕ)) (EndsBy : Stop → Type 0) : Type 0 where
  pub plan : Option Plan
  pub plan_is : IfSome plan (IsPlanOf file)
  -- where it is none the run ends so
  pub unplanned : plan ≡ None → HasNoPlan EndsBy
  -- a refused plan is said, and comes only where its bytes meet a fault
  pub refused_plan : EndsBy stop.PlanRefused → (plan ≡ None) × RefusesPlan s out out' file

-- A run has no plan: the file of that name was not read, or is none
pub record LacksPlan {P O E : Type 0} (p : PlaceSeen P) (s : SinkSeen O) (before after : Outside P O) (name : List ℕ) (end : Result E Stop) : Type 0 where
  -- no other file was opened, this one was where a read fault is the end, and nothing was created
  pub names : LeavesNames p before.place after.place (name ∷ []) []
  pub first : end ≡ Err stop.ReadFault → FailsAtLast p before.place names.opens
  -- the run ends by want of memory, a read fault or the plan's refusal
  pub ends : HasNoPlan (λ cause. end ≡ Err cause)
  -- a refused plan is said, and comes only where its bytes meet a fault; else nothing is put
  pub refused : end ≡ Err stop.PlanRefused → RefusesPlan s before.out after.out (file_of (p.files before.place) name)
  pub silent : end ≢ Err stop.PlanRefused → Silent s before.out after.out
