-- How a run of a plan ends, and what it leaves of a place and of the sink of its report: a record for each stage to
-- which it came.
use Rattle.std.specs.Prelude.{◌≡◌, ◌≢◌, ◌⊎◌, ℕ, true, List, [], ◌∷◌, ◌++◌, Contains, Some, IsSome, IsSomeAnd, Result, Ok, Err, All, Any}
use Rattle.std.specs.FinMap.{get}
use Rattle.cube_schema.specs.Files.{input_names, output_names}
use Rattle.cube_schema.specs.declared.plan.Plan.{Plan}
use Rattle.feed_queue.specs.Journal.{journal_text}
use Rattle.feed_reader.specs.Feeds.{is_feed_refused}
use Rattle.outer_io.specs.Faults.{Rose, RoseBy}
use Rattle.outer_io.specs.Files.{Files, file_or_empty}
use Rattle.outer_io.specs.Told.{Told}
use Rattle.run_files.specs.Counts.{CountsAt}
use Rattle.run_files.specs.Headed.{HasHeader, RefusesLast}
use Rattle.run_files.specs.Leaving.{FailsAtLast, FailsAtLastMade, KeepsOthers, LeavesNames}
use Rattle.run_files.specs.Outside.{file_of, Outside, PlaceSeen, Puts, PutsOrFails, Silent, SinkSeen}
use Rattle.run_files.specs.Planned.{IsPlanOf, LacksPlan}
use Rattle.run_files.specs.Stops.{IsOrLacks}
use Rattle.run_files.specs.declared.stop.Stop.{Stop}
use Rattle.run_files.specs.declared.stop.Stop.TheVariants.{NoMemory, PlanRefused, ReadFault, WriteFault, FeedRefused}
use Rattle.session_core.specs.Scripts.{is_script_refused}
use Rattle.world_core.specs.declared.entry.Entry.{Entry}
use Rattle.plan_run.specs.Completed.{IsCompleted}
use Rattle.plan_run.specs.Interrupted.{Account, BeginsFiles, HoldsAll, HoldsFiles, IsUnwritten, account_text, read_stops}
use Rattle.plan_run.specs.Opening.{OpensInOrder}

-- a feed of the plan is refused, by its header or its length, or a script of it, which has no `quit` and more than 2^30
-- bytes
abbrev pub HasRefusedInput : Files → Plan → Type 0
HasRefusedInput files plan =
    ((name : List ℕ) × Contains plan.feeds name × (is_feed_refused plan.schema (file_or_empty files name) ≡ true))
    ⊎ ((name : List ℕ) × Contains (plan.asks ++ plan.finals) name × (is_script_refused plan.schema (file_or_empty files name) ≡ true))

module _ {P T : Type 0} (p : PlaceSeen P) (s : SinkSeen T) (before after : Outside P T) where
  -- the claim holds of the files before and after, where the place tells its files
  abbrev pub OfBothFiles : (Files → Files → Type 0) → Type 0
  OfBothFiles Claim = Told (p.files before.place) (λ files. IsSomeAnd (p.files after.place) (Claim files))

  -- ---- the second stage

  -- The run of the plan ended before its threads
  pub record EndsBeforeThreads (name : List ℕ) (plan : Plan) (end : Result (Unit {0}) Stop) : Type 0 where
    -- by this cause
    pub stop : Stop
    pub end_is : end ≡ Err stop
    -- the plan was opened, and of its inputs these from the front; of its outputs some were created, from the front
    pub names : LeavesNames p before.place after.place (name ∷ input_names plan) (output_names plan)
    pub later : List (List ℕ)
    pub opens_are : names.opens ≡ name ∷ later
    -- a read fault ends the run at the file that was opened last
    pub first : stop ≡ ReadFault → FailsAtLast p before.place names.opens
    -- each feed's first line was read, and is a header, before the next file was opened; a feed that is refused is the
    -- last, which is said, and nothing else is put
    pub order : OpensInOrder p s plan before after later names.makes (Some stop)
    -- no write failed before the output that was created last
    pub made : (names.makes ≡ []) ⊎ FailsAtLastMade p before.place names.makes
    -- unless memory was wanted or a write failed, nothing was created
    pub unmade : stop ≢ NoMemory → stop ≢ WriteFault → names.makes ≡ []
    -- what was created is empty, where no write failed
    pub empty : ¬ Rose (p.write_faults before.place) (p.write_faults after.place) → OfBothFiles (λ files files'. All (λ name. get files' name ≡ Some []) names.makes)

  -- ---- what the later stages have behind them

  -- The threads of the run began, with all that the plan names
  pub record HasBegun (name : List ℕ) (plan : Plan) : Type 0 where
    -- all of it was opened and created, once and in order
    pub opened : p.opened after.place ≡ p.opened before.place ++ name ∷ input_names plan
    pub created : p.created after.place ≡ p.created before.place ++ output_names plan
    -- the place was this when it was, and until then no read and no write had failed
    pub began : P
    pub opened_then : p.opened began ≡ p.opened after.place
    pub created_then : p.created began ≡ p.created after.place
    pub quiet_then : (p.read_faults began ≡ p.read_faults before.place) × (p.write_faults began ≡ p.write_faults before.place)
    -- each feed's first line is a header
    pub headed : All (λ feed. HasHeader plan.schema (file_of (p.files before.place) feed)) plan.feeds
    -- every file but the outputs is as before
    pub others : KeepsOthers (p.files before.place) (p.files after.place) (output_names plan)

  -- ---- the third stage

  -- The threads of the run ended, and it put no report, for want of memory
  pub record LacksReport (name : List ℕ) (plan : Plan) (end : Result (Unit {0}) Stop) : Type 0 where
    pub begun : HasBegun name plan
    pub lacking : end ≡ Err NoMemory
    -- it put nothing
    pub silent : Silent s before.out after.out
    -- the files begin with this, which it would have reported
    pub account : Account
    pub files : OfBothFiles (BeginsFiles plan end account)

  -- ---- the last stage

  -- The run was closed, and put its report
  pub record HasReported (name : List ℕ) (plan : Plan) (end : Result (Unit {0}) Stop) : Type 0 where
    pub begun : HasBegun name plan
    -- what it reports, in one put, to the last line, or a part of it from the front where the sink's count rose
    pub account : Account
    pub puts : PutsOrFails s before.out after.out (account_text plan account)
    -- the files begin with it, whatever failed, and hold it, where no write to the place failed
    pub files : OfBothFiles (BeginsFiles plan end account)
    pub holds : ¬ Rose (p.write_faults before.place) (p.write_faults after.place) → OfBothFiles (HoldsFiles plan end account)
    -- no more of its lines say `stopped: Read` than the place's count of reading rose by
    pub reads : RoseBy (read_stops account) (p.read_faults before.place) (p.read_faults after.place)
    -- `stopped: Write` comes only where the place's count of writing rose
    pub writes : Any IsUnwritten (account.asks ++ account.finals) → Rose (p.write_faults before.place) (p.write_faults after.place)
    -- with Ok the run is completed
    pub done : end ≡ Ok tt → OfBothFiles (λ files files'. IsCompleted plan files files' (s.held before.out) (s.held after.out))
    -- a refused feed is the end only where a feed or a script of the plan is refused
    pub refused : end ≡ Err FeedRefused → Told (p.files before.place) (λ files. HasRefusedInput files plan)
    -- and a refused plan is not
    pub planned : end ≢ Err PlanRefused

  -- ---- what an end tells of its stage

  -- all outputs of the plan were created
  abbrev pub CreatesAll : Plan → Type 0
  CreatesAll plan = p.created after.place ≡ p.created before.place ++ output_names plan

  -- each feed of the plan has a header
  abbrev pub HasHeaders : Plan → Type 0
  HasHeaders plan = All (λ feed. HasHeader plan.schema (file_of (p.files before.place) feed)) plan.feeds

  -- the plan and these feeds were opened, of the last one the line of its header was put, and nothing was created
  abbrev pub RefusesHeader : List ℕ → Plan → Type 0
  RefusesHeader name plan =
      (opens : List (List ℕ)) × (p.opened after.place ≡ p.opened before.place ++ name ∷ opens) × RefusesLast plan.schema (file_of (p.files before.place)) opens (Puts s before.out after.out) × (p.created after.place ≡ p.created before.place)

  -- What the end of a run of the plan tells, whatever the stage to which it came
  pub record TellsStage (name : List ℕ) (plan : Plan) (end : Result (Unit {0}) Stop) : Type 0 where
    -- unless memory was wanted or a write failed, none of the outputs was created, or all were
    pub made : end ≢ Err NoMemory → end ≢ Err WriteFault → (p.created after.place ≡ p.created before.place) ⊎ CreatesAll plan
    -- with a refused feed, and one that has no header, the line of the feed that was opened last was put alone
    pub headless : end ≡ Err FeedRefused → ¬ HasHeaders plan → RefusesHeader name plan
    -- with one where all have headers, and with a read fault where all outputs were created, the run put its report
    pub refused_reported : IsSome (p.files before.place) → end ≡ Err FeedRefused → HasHeaders plan → HasReported name plan end
    pub read_reported : end ≡ Err ReadFault → CreatesAll plan → HasReported name plan end
    -- where putting the report alone failed, and all outputs were created, their files miss nothing
    pub misses_nothing : end ≡ Err WriteFault → ¬ Rose (p.write_faults before.place) (p.write_faults after.place) → CreatesAll plan
        → OfBothFiles (λ files files'. (entries : List Entry) × (get files' plan.journal ≡ Some (journal_text plan.schema entries)) × HoldsAll plan entries files files')
    -- with nothing refused and no count risen the run is done, or memory was wanted
    pub completes : ¬ Rose (p.read_faults before.place) (p.read_faults after.place) → ¬ Rose (p.write_faults before.place) (p.write_faults after.place) → ¬ Rose (s.faults before.out) (s.faults after.out)
        → (files : Files) → p.files before.place ≡ Some files → ¬ HasRefusedInput files plan → IsOrLacks tt end

  -- ---- all of them

  -- How far a run of this plan came, which is that of the file of that name
  pub record EndsUnderPlan (name : List ℕ) (end : Result (Unit {0}) Stop) : Type 0 where
    pub plan : Plan
    pub plan_is : IsPlanOf (file_of (p.files before.place) name) plan
    pub stage : EndsBeforeThreads name plan end ⊎ LacksReport name plan end ⊎ HasReported name plan end
    -- and what the end tells of that
    pub tells : TellsStage name plan end

  -- How a run of the plan of that name ends
  pub record RunEnds (name : List ℕ) (end : Result (Unit {0}) Stop) : Type 0 where
    -- how far it came
    pub stage : LacksPlan p s before after name end ⊎ EndsUnderPlan name end
    -- and which counts of faults stand still there, and which rose
    pub counts : CountsAt p s before after end
