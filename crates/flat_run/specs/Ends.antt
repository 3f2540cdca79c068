-- How answering a script over the records of a plan's feeds ends, and what it leaves: a record for each stage to which
-- it came.
use Rattle.std.specs.Prelude.{◌≡◌, ◌⊎◌, ℕ, true, false, List, [], ◌∷◌, ◌++◌, take, All, Some, Result, Ok, Err}
use Rattle.cube_schema.specs.declared.plan.Plan.{Plan}
use Rattle.outer_io.specs.Files.{Files, file_or_empty}
use Rattle.outer_io.specs.Told.{Told}
use Rattle.run_files.specs.FaultCounts.{KeepsFaults}
use Rattle.run_files.specs.Headed.{EndsAtFeeds, HasHeader}
use Rattle.run_files.specs.Leaving.{FailsAtLast, LeavesNames}
use Rattle.run_files.specs.Outside.{file_of, Outside, PlaceSeen, Silent, SinkSeen}
use Rattle.run_files.specs.Planned.{IsPlanOf, LacksPlan}
use Rattle.run_files.specs.Stops.{is_lacking}
use Rattle.run_files.specs.declared.stop.Stop.{Stop}
use Rattle.run_files.specs.declared.stop.Stop.TheVariants.{NoMemory, PlanRefused, ReadFault, WriteFault, FeedRefused}
use Rattle.save_run.specs.Saved.{accepted_records, AreTaken, HasLongFeed}
use Rattle.flat_run.specs.Answering.{GainsScript, GainsScriptPart}
use Rattle.flat_session.specs.Answers.{flat_basis, FlatBasis}
use Rattle.flat_run.specs.Names.{ScriptNames}

-- how a call ends
abbrev pub FlatEnd : Type 0
FlatEnd = Result (Unit {0}) Stop

-- the accepted records of a plan's feeds, each of which was told
abbrev pub records_of : Plan → Files → FlatBasis
records_of plan files = flat_basis plan.schema (accepted_records plan files)

-- what answering the named script over the feeds of the named plan leaves of a place and a sink
module _ {P O : Type 0} (p : PlaceSeen P) (s : SinkSeen O) (before after : Outside P O) (names : ScriptNames) where
  -- the claim holds of the files, where the place tells them
  abbrev pub AtStart : (Files → Type 0) → Type 0
  AtStart Claim = Told (p.files before.place) Claim

  -- ---- the stage of the headers

  -- The feeds of the plan were opened up to one at which the call ended, or before the next
  pub record EndsAtHeads (plan : Plan) (end : FlatEnd) : Type 0 where
    -- by this cause
    pub stop : Stop
    pub end_is : end ≡ Err stop
    -- the plan was opened, and of its feeds these from the front
    pub opens : List (List ℕ)
    pub names_left : LeavesNames p before.place after.place (names.plan ∷ plan.feeds) []
    pub opens_are : names_left.opens ≡ names.plan ∷ opens
    -- each feed's first line is a header, before the next feed was opened; a feed that is refused is the last, which is
    -- said, and nothing else is put
    pub order : EndsAtFeeds p s plan before after opens names_left.makes (Some stop)
    -- a read fault ends it at the file that was opened last
    pub first : stop ≡ ReadFault → FailsAtLast p before.place names_left.opens

  -- ---- the stage of the records

  -- why reading feeds to their ends ends a call: one that is refused there has too many bytes
  abbrev pub EndsByFeed : Plan → FlatEnd → Type 0
  EndsByFeed plan (Ok done) = ⊥
  EndsByFeed plan (Err NoMemory) = Unit {0}
  EndsByFeed plan (Err PlanRefused) = ⊥
  EndsByFeed plan (Err ReadFault) = Unit {0}
  EndsByFeed plan (Err WriteFault) = ⊥
  EndsByFeed plan (Err FeedRefused) = AtStart (HasLongFeed plan)

  -- A feed was not read to its end, and the script was not opened
  pub record EndsAtRecords (plan : Plan) (end : FlatEnd) : Type 0 where
    -- by this cause
    pub by : EndsByFeed plan end
    -- the plan and all its feeds were opened, once and in order
    pub opened : p.opened after.place ≡ p.opened before.place ++ names.plan ∷ plan.feeds
    -- nothing was put
    pub silent : Silent s before.out after.out

  -- ---- the stage of the answers

  -- All feeds were read to their ends, and the script was answered over their records
  pub record AnswersRecords (plan : Plan) (end : FlatEnd) : Type 0 where
    -- no feed is refused
    pub taken : AtStart (AreTaken plan)
    -- with Ok the sink gained all answers, and the script is not refused
    pub done : end ≡ Ok tt → AtStart (λ files. GainsScript s before.out after.out (records_of plan files) false (file_or_empty files names.script))
    -- and so it did where the script is refused
    pub refused : end ≡ Err FeedRefused → AtStart (λ files. GainsScript s before.out after.out (records_of plan files) true (file_or_empty files names.script))
    -- with any end it gained some of them; one may be the line for want of memory only where that is the end
    pub part : AtStart (λ files. GainsScriptPart s before.out after.out (records_of plan files) (is_lacking end) (file_or_empty files names.script))
    -- the plan and all its feeds were opened, once and in order, and then the script, once at most, and with Ok it was
    pub opens : ℕ
    pub opened : p.opened after.place ≡ p.opened before.place ++ names.plan ∷ (plan.feeds ++ take opens (names.script ∷ []))
    pub opened_it : end ≡ Ok tt → p.opened after.place ≡ p.opened before.place ++ names.plan ∷ (plan.feeds ++ names.script ∷ [])

  -- ---- all stages

  -- All feeds of the plan have headers, and the call ended after that
  pub record PassesHeads (plan : Plan) (end : FlatEnd) : Type 0 where
    pub headed : All (λ feed. HasHeader plan.schema (file_of (p.files before.place) feed)) plan.feeds
    pub stage : EndsAtRecords plan end ⊎ AnswersRecords plan end

  -- How far a call under this plan came, which is that of the file of that name
  pub record AnswersUnderPlan (end : FlatEnd) : Type 0 where
    pub plan : Plan
    pub plan_is : IsPlanOf (file_of (p.files before.place) names.plan) plan
    pub stage : EndsAtHeads plan end ⊎ PassesHeads plan end

  -- How a call ends
  pub record FlatEnds (end : FlatEnd) : Type 0 where
    -- how far it came
    pub stage : LacksPlan p s before after names.plan end ⊎ AnswersUnderPlan end
    -- each fault has its cause, and no file is written
    pub faults : KeepsFaults p s before after end
