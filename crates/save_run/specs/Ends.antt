-- How saving the cube of a plan's feeds ends, and what it leaves of a place and a sink: a record for each stage to
-- which it came.
use Rattle.std.specs.Prelude.{◌≡◌, ◌⊎◌, ℕ, List, [], ◌∷◌, ◌++◌, Some, IsSomeAnd, Result, Ok, Err, All}
use Rattle.cube_schema.specs.declared.plan.Plan.{Plan}
use Rattle.feed_reader.specs.declared.counts.FeedCounts.{FeedCounts}
use Rattle.image_cube.specs.declared.fault.ImageFault.TheVariants as image_fault
use Rattle.image_run.specs.Lines.{image_line}
use Rattle.image_run.specs.declared.end.ImageEnd.{ImageEnd}
use Rattle.image_run.specs.declared.end.ImageEnd.TheVariants.{Done, Refused}
use Rattle.outer_io.specs.Faults.{Rose}
use Rattle.outer_io.specs.Files.{Files}
use Rattle.outer_io.specs.Told.{Told}
use Rattle.run_files.specs.Counts.{CountsAt}
use Rattle.run_files.specs.Headed.{EndsAtFeeds, HasHeader}
use Rattle.run_files.specs.Leaving.{FailsAtLast, KeepsOthers, LeavesNames}
use Rattle.run_files.specs.Outside.{FailsToPut, file_of, Outside, PlaceSeen, Puts, Silent, SinkSeen}
use Rattle.run_files.specs.Planned.{IsPlanOf, LacksPlan}
use Rattle.run_files.specs.Stops.{IsOrLacks}
use Rattle.run_files.specs.declared.stop.Stop.{Stop}
use Rattle.run_files.specs.declared.stop.Stop.TheVariants.{NoMemory, PlanRefused, ReadFault, WriteFault, FeedRefused}
use Rattle.save_run.specs.Lines.{saved_text}
use Rattle.save_run.specs.Names.{SaveNames}
use Rattle.save_run.specs.Saved.{AreTaken, HoldsImage, HasLongFeed, HasLongRecords}

-- what saving the feeds of the named plan under the name of an image leaves of a place and a sink
module _ {P O : Type 0} (p : PlaceSeen P) (s : SinkSeen O) (before after : Outside P O) (names : SaveNames) where
  -- the claim holds of the files before, where the place tells them
  abbrev pub AtEntry : (Files → Type 0) → Type 0
  AtEntry Claim = Told (p.files before.place) Claim

  -- and of the files before and after
  abbrev pub AtEntryAndExit : (Files → Files → Type 0) → Type 0
  AtEntryAndExit Claim = Told (p.files before.place) (λ files. IsSomeAnd (p.files after.place) (Claim files))

  -- nothing was created
  abbrev pub CreatesNone : Type 0
  CreatesNone = p.created after.place ≡ p.created before.place

  -- no count of faults rose
  abbrev pub NoneRose : Type 0
  NoneRose =
      ¬ Rose (p.read_faults before.place) (p.read_faults after.place)
      × ¬ Rose (p.write_faults before.place) (p.write_faults after.place)
      × ¬ Rose (s.faults before.out) (s.faults after.out)

  -- ---- the stage of the headers

  -- The feeds of the plan were opened up to one at which saving ended, or before the next
  pub record EndsAtHeaders (plan : Plan) (end : Result ImageEnd Stop) : Type 0 where
    -- by this cause
    pub stop : Stop
    pub end_is : end ≡ Err stop
    -- the plan was opened, and of its feeds these from the front; nothing was created
    pub leaves : LeavesNames p before.place after.place (names.plan ∷ plan.feeds) []
    pub opens : List (List ℕ)
    pub opens_are : leaves.opens ≡ names.plan ∷ opens
    -- a read fault ends it at the file that was opened last
    pub first : stop ≡ ReadFault → FailsAtLast p before.place leaves.opens
    -- each feed's first line is a header, before the next feed was opened; a feed that is refused is the last, which is
    -- said, and nothing else is put
    pub order : EndsAtFeeds p s plan before after opens leaves.makes (Some stop)

  -- ---- the stage of the image

  -- The image alone was created, once all feeds were read to their ends, none was refused and no read failed
  pub record BeginsImage (plan : Plan) : Type 0 where
    pub created : p.created after.place ≡ p.created before.place ++ names.image ∷ []
    pub taken : AtEntry (AreTaken plan)
    pub read_faults : p.read_faults after.place ≡ p.read_faults before.place

  -- it was not, or it was
  abbrev pub MayBeginImage : Plan → Type 0
  MayBeginImage plan = CreatesNone ⊎ BeginsImage plan

  -- The image was written, of which this is said
  pub record SaysImage (plan : Plan) (Says : List ℕ → Type 0) : Type 0 where
    pub begins : BeginsImage plan
    -- what is counted of the feeds, and how many bytes the image has
    pub counts : List FeedCounts
    pub size : ℕ
    pub holds : AtEntryAndExit (λ files files'. HoldsImage plan files files' names.image counts size)
    pub says : Says (saved_text plan counts size)

  -- The image has too many bytes, of which this is said
  pub record SaysTooLong (plan : Plan) (Says : List ℕ → Type 0) : Type 0 where
    pub created : CreatesNone
    pub long : AtEntry (HasLongRecords plan)
    pub says : Says (image_line image_fault.TooLong)

  -- The image could not be written, and nothing was put
  pub record LosesImage (plan : Plan) : Type 0 where
    pub begins : MayBeginImage plan
    pub rose : Rose (p.write_faults before.place) (p.write_faults after.place)
    pub silent : Silent s before.out after.out

  -- What saving leaves that came to its end past the headers: a feed is refused there without a line, for its length,
  -- and a write fault is one of the image or of the sink
  abbrev pub EndsPastHeaders : Plan → Result ImageEnd Stop → Type 0
  EndsPastHeaders plan (Ok Done) = SaysImage plan (Puts s before.out after.out)
  EndsPastHeaders plan (Ok Refused) = SaysTooLong plan (Puts s before.out after.out)
  EndsPastHeaders plan (Err NoMemory) = MayBeginImage plan × Silent s before.out after.out
  EndsPastHeaders plan (Err PlanRefused) = ⊥
  EndsPastHeaders plan (Err ReadFault) = CreatesNone × Silent s before.out after.out
  EndsPastHeaders plan (Err WriteFault) = LosesImage plan ⊎ SaysTooLong plan (FailsToPut s before.out after.out) ⊎ SaysImage plan (FailsToPut s before.out after.out)
  EndsPastHeaders plan (Err FeedRefused) = CreatesNone × Silent s before.out after.out × AtEntry (HasLongFeed plan)

  -- All feeds of the plan have headers, and saving ended after that
  pub record PassesHeaders (plan : Plan) (end : Result ImageEnd Stop) : Type 0 where
    -- the plan and all its feeds were opened, once and in order
    pub opened : p.opened after.place ≡ p.opened before.place ++ names.plan ∷ plan.feeds
    pub headed : All (λ feed. HasHeader plan.schema (file_of (p.files before.place) feed)) plan.feeds
    pub ends : EndsPastHeaders plan end

  -- ---- all stages

  -- How far saving under this plan came, which is that of the file of that name
  pub record SavesUnderPlan (end : Result ImageEnd Stop) : Type 0 where
    pub plan : Plan
    pub plan_is : IsPlanOf (file_of (p.files before.place) names.plan) plan
    pub stage : EndsAtHeaders plan end ⊎ PassesHeaders plan end
    -- where no feed is refused and no count rose, the image is written or has too many bytes, or memory was wanted
    pub complete : NoneRose → AtEntry (λ files. AreTaken plan files → IsOrLacks Done end ⊎ IsOrLacks Refused end)

  -- How saving ends
  pub record SaveEnds (end : Result ImageEnd Stop) : Type 0 where
    -- how far it came
    pub stage : LacksPlan p s before after names.plan end ⊎ SavesUnderPlan end
    -- every file but the image is as before, and that too where it was not created
    pub others : KeepsOthers (p.files before.place) (p.files after.place) (names.image ∷ [])
    pub untouched : CreatesNone → p.files after.place ≡ p.files before.place
    -- which counts of faults stand still, and which rose
    pub counts : CountsAt p s before after end
